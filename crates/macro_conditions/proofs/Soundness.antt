-- What the machine gives is the value of an expression of the grammar.
use Rattle.std.proofs.Common.{◌≡◌, ℕ, zero, suc, ◌+◌, ◌-◌, ◌≤◌, nat_le, Bool, true, false, not, ◌&&◌, if◌then◌else◌, List, [], ◌∷◌, Option, Some, None, refl, ap, subst, ◌∙◌, arith}
use Rattle.std.specs.Prelude.{option_and_then}
use Rattle.std.proofs.lemmas.Bool.Decides.{nat_tests}
use Rattle.c_tokens.specs.declared.Punct.{Punct}
use Rattle.c_tokens.specs.declared.Punct.TheVariants as punct
use Rattle.c_tokens.specs.declared.TokenKind.{TokenKind}
use Rattle.c_tokens.specs.declared.TokenKind.TheVariants as token
use Rattle.macro_conditions.specs.declared.values.Value.{Value}
use Rattle.macro_conditions.specs.Values.{is_true, truth, literal_value, character_value, combined, evaluates_right, prefixed, chosen}
use Rattle.macro_conditions.specs.Trees.{Tree, unary, binary, choice, sequence, level_of, is_prefix, Reads, tighter, number, constant, name, brackets, operand, operation, conditional_of, comma, value, conditional}
use Rattle.macro_conditions.specs.declared.machine.Frame.{Frame}
use Rattle.macro_conditions.specs.declared.machine.Frame.TheVariants.{Bracket, Sign, Left, Question as Asks, Colon as Chooses, Comma as Follows}
use Rattle.macro_conditions.specs.Machine.{completes, applied, restored, Operand, reduced, Phase, wants, has, on_prefix, on_operand, on_operator, on_punct, on_binary, on_colon, on_close, holds_comma, own_level, punct_pull, pull, step, finish, run, whole, alone}
use Rattle.macro_conditions.proofs.Levels.{level_bounds, own_is, pull_is, need}

-- ---- a looser level reads all that a tighter one does

looser_by : {l : ℕ} {s t : List TokenKind} {x : Tree} (n : ℕ) → Reads (l + n) s x t → Reads l s x t
looser_by {l} {s} {t} {x} zero r = let e : l + zero ≡ l = omega arith in rw e at r
looser_by {l} {s} {t} {x} (suc n) r = let e : l + suc n ≡ suc (l + n) = omega arith in looser_by n (tighter (rw e at r))

looser : {l k : ℕ} {s t : List TokenKind} {x : Tree} → k ≤ l → Reads l s x t → Reads k s x t
looser {l} {k} le r = let e : l ≡ k + (l - k) = omega arith in looser_by (l - k) (rw e at r)

-- ---- what the stack has read. Open all stack evaluated s: the frames were read from the tokens of all before s

pub data Open (all : List TokenKind) : List Frame → Bool → List TokenKind → Type 0 where
  at_start : Open all [] true all
  in_bracket : {fs : List Frame} {e : Bool} {s : List TokenKind} → Open all fs e (token.Punct punct.LeftParen ∷ s)
      → Open all (Bracket e ∷ fs) e s
  in_sign : {fs : List Frame} {e : Bool} {p : Punct} {s : List TokenKind} → Open all fs e (token.Punct p ∷ s) → is_prefix p ≡ true
      → Open all (Sign p ∷ fs) e s
  in_left : {fs : List Frame} {e : Bool} {s t : List TokenKind} {p : Punct} {l : ℕ} {x : Tree} {a : Value} → Open all fs e s
      → level_of p ≡ Some l → Reads l s x (token.Punct p ∷ t) → value e x ≡ Some a
      → need fs ≤ l → Open all (Left p a e ∷ fs) (evaluates_right e p a) t
  in_question : {fs : List Frame} {e : Bool} {s t : List TokenKind} {c : Tree} {k : Value} → Open all fs e s
      → Reads 2 s c (token.Punct punct.Question ∷ t) → value e c ≡ Some k
      → need fs ≤ 1 → Open all (Asks k e ∷ fs) (e && is_true k) t
  in_colon : {fs : List Frame} {e : Bool} {s t u : List TokenKind} {c x : Tree} {k a : Value} → Open all fs e s
      → Reads 2 s c (token.Punct punct.Question ∷ t) → value e c ≡ Some k
      → Reads 0 t x (token.Punct punct.Colon ∷ u) → value (e && is_true k) x ≡ Some a → need fs ≤ 1
      → Open all (Chooses k a e ∷ fs) (e && not (is_true k)) u
  in_comma : {fs : List Frame} {s t : List TokenKind} {x : Tree} {a : Value} → Open all fs false s
      → Reads 0 s x (token.Punct punct.Comma ∷ t) → value false x ≡ Some a
      → need fs ≤ 0 → Open all (Follows ∷ fs) false t

-- an operand behind the stack, of a level that it takes
pub record Read (all : List TokenKind) (low : ℕ) (fs : List Frame) (e : Bool) (v : Value) (t : List TokenKind) : Type 0 where
  pub start : List TokenKind
  pub level : ℕ
  pub tree : Tree
  pub opened : Open all fs e start
  pub reads : Reads level start tree t
  pub is : value e tree ≡ Some v
  pub taken : need fs ≤ level
  pub high : low ≤ level

-- ---- a frame that is completed

passes : (l k : ℕ) → nat_le l k ≡ true → l ≤ k
passes l k e = grind (arith, nat_tests)

binary_value : (e : Bool) (p : Punct) (x y : Tree) (a b : Value) → value e x ≡ Some a → value (evaluates_right e p a) y ≡ Some b
    → value e (binary p x y) ≡ combined e p a b
binary_value e p x y a b h g = rw (h, g) refl

choice_value : (e : Bool) (c x y : Tree) (k a b : Value) → value e c ≡ Some k → value (e && is_true k) x ≡ Some a
    → value (e && not (is_true k)) y ≡ Some b
    → value e (choice c x y) ≡ Some (chosen k a b)
choice_value e c x y k a b h g f = rw (h, g, f) refl

unary_value : (e : Bool) (p : Punct) (x : Tree) (a : Value) → value e x ≡ Some a → value e (unary p x) ≡ Some (prefixed p a)
unary_value e p x a h = rw h refl

sequence_value : (x y : Tree) (a b : Value) → value false x ≡ Some a → value false y ≡ Some b → value false (sequence x y) ≡ Some b
sequence_value x y a b h g = rw (h, g) refl

signs : (fs : List Frame) (all : List TokenKind) (e : Bool) (s : List TokenKind) → Open all fs e s → need fs ≤ 12
signs [] all e s o = omega arith
signs (Bracket x ∷ fs) all e s o = omega arith
signs (Sign p ∷ fs) all e s o = omega arith
signs (Left p a x ∷ fs) all e s (in_left {p = p'} {l = l'} o q r h n) =
    let b = level_bounds p' l' q in let same = own_is p' l' q in omega arith
signs (Asks c x ∷ fs) all e s o = omega arith
signs (Chooses c a x ∷ fs) all e s o = omega arith
signs (Follows ∷ fs) all e s o = omega arith

-- the operand becomes the last one of the frame
module _ (all : List TokenKind) (l : ℕ) (v w : Value) (t : List TokenKind) where
  popped_by : (f : Frame) (fs : List Frame) (e : Bool) (s : List TokenKind) (k : ℕ) (y : Tree) → completes l f ≡ true
      → applied f v ≡ Some w
      → Open all (f ∷ fs) e s → Reads k s y t → value e y ≡ Some v → need (f ∷ fs) ≤ k → Read all l fs (restored f e) w t
  popped_by (Bracket x) fs e s k y c a o r h n = cc
  popped_by (Asks q x) fs e s k y c a o r h n = cc
  popped_by (Sign p) fs e s k y c a (in_sign o q) r h n = record {
    start = token.Punct p ∷ s;
    level = 12;
    tree = unary p y;
    opened = o;
    reads = operand q (looser n r);
    is = unary_value e p y v h ∙ a;
    taken = signs fs all e (token.Punct p ∷ s) o;
    high = (let d = passes l 11 c in omega arith);
  }
  popped_by (Left p b e') fs e s k y c a (in_left {s = s'} {l = m} {x = x} o q d g n') r h n = record {
    start = s';
    level = m;
    tree = binary p x y;
    opened = o;
    reads = operation q d (looser (let same = own_is p m q in omega arith) r);
    is = binary_value e' p x y b v g h ∙ a;
    taken = n';
    high = (let same = own_is p m q in let le = passes l (own_level p) c in omega arith);
  }
  popped_by (Chooses q b e') fs e s k y c a (in_colon {s = s'} {c = i} {x = x} o d g f j n') r h n = record {
    start = s';
    level = 1;
    tree = choice i x y;
    opened = o;
    reads = conditional_of d f (looser n r);
    is = choice_value e' i x y q b v g j h ∙ a;
    taken = n';
    high = passes l 1 c;
  }
  popped_by Follows fs e s k y c a (in_comma {s = s'} {x = x} {a = b} o d g n') r h n = record {
    start = s';
    level = 0;
    tree = sequence x y;
    opened = o;
    reads = comma d (looser n r);
    is = sequence_value x y b v g h ∙ a;
    taken = n';
    high = passes l 0 c;
  }

popped : (all : List TokenKind) (l : ℕ) (f : Frame) (fs : List Frame) (e : Bool) (v w : Value) (t : List TokenKind) → completes l f ≡ true
    → applied f v ≡ Some w
    → Read all l (f ∷ fs) e v t → Read all l fs (restored f e) w t
popped all l f fs e v w t c a r = popped_by all l v w t f fs e r.start r.level r.tree c a r.opened r.reads r.is r.taken

-- ---- all frames that are completed

-- the top frame waits on
abbrev pub waits : ℕ → List Frame → Bool
waits l [] = true
waits l (f ∷ fs) = not (completes l f)

pub record Reduced (all : List TokenKind) (l : ℕ) (o : Operand) (t : List TokenKind) : Type 0 where
  pub read : Read all l o.stack o.evaluated o.value t
  pub waiting : waits l o.stack ≡ true

module _ (all : List TokenKind) (l : ℕ) (t : List TokenKind) where
  abbrev Reduces : List Frame → Type 0
  Reduces fs = (e : Bool) (v : Value) (o : Operand) → reduced l fs e v ≡ Some o → Read all l fs e v t → Reduced all l o t

  by_value : (f : Frame) (fs : List Frame) → Reduces fs → (e : Bool) (v : Value) (o : Operand) (a : Option Value) → applied f v ≡ a
      → completes l f ≡ true
      → option_and_then (reduced l fs (restored f e)) a ≡ Some o → Read all l (f ∷ fs) e v t → Reduced all l o t
  by_value f fs go e v o None g c h r = cc
  by_value f fs go e v o (Some w) g c h r = go (restored f e) w o h (popped all l f fs e v w t c g r)

  by_frame : (f : Frame) (fs : List Frame) → Reduces fs → (e : Bool) (v : Value) (o : Operand) (b : Bool) → completes l f ≡ b
      → (if b then option_and_then (reduced l fs (restored f e)) (applied f v)
      else Some (record { stack = f ∷ fs; evaluated = e; value = v })) ≡ Some o → Read all l (f ∷ fs) e v t → Reduced all l o t
  by_frame f fs go e v o true c h r = by_value f fs go e v o (applied f v) refl c h r
  by_frame f fs go e v o false c h r =
      let same : ◌≡◌ {A = Operand} (record { stack = f ∷ fs; evaluated = e; value = v }) o = cc in
      subst (λ (q : Operand). Reduced all l q t) same (record { read = r; waiting = ap not c })

  reduces : (fs : List Frame) → Reduces fs
  reduces [] e v o h r =
      let same : ◌≡◌ {A = Operand} (record { stack = []; evaluated = e; value = v }) o = cc in
      subst (λ (q : Operand). Reduced all l q t) same (record { read = r; waiting = refl })
  reduces (f ∷ fs) e v o h r = by_frame f fs (reduces fs) e v o (completes l f) refl h r

-- ---- phases

abbrev pub IsAt : List TokenKind → Phase → List TokenKind → Type 0
IsAt all (wants fs e) t = Open all fs e t
IsAt all (has fs e v) t = Read all 12 fs e v t

fresh : {all : List TokenKind} {fs : List Frame} {e : Bool} {s t : List TokenKind} {x : Tree} {v : Value} → Open all fs e s
    → Reads 13 s x t → value e x ≡ Some v → Read all 12 fs e v t
fresh {all} {fs} {e} {s} {t} {x} {v} o r h =
    record {
      start = s;
      level = 13;
      tree = x;
      opened = o;
      reads = r;
      is = h;
      taken = (let b = signs fs all e s o in omega arith);
      high = omega arith;
    }

same_phase : (all : List TokenKind) (ph next : Phase) (t : List TokenKind) → ◌≡◌ {A = Option Phase} (Some ph) (Some next) → IsAt all ph t
    → IsAt all next t
same_phase all ph next t h i = let same : ph ≡ next = cc in subst (λ (q : Phase). IsAt all q t) same i

at_prefix : (all : List TokenKind) (fs : List Frame) (e : Bool) (p : Punct) (ts : List TokenKind) (next : Phase)
    → Open all fs e (token.Punct p ∷ ts) → on_prefix fs e p ≡ Some next → IsAt all next ts
at_prefix all fs e punct.LeftParen ts next o h = same_phase all (wants (Bracket e ∷ fs) e) next ts h (in_bracket o)
at_prefix all fs e p ts next o h = by (is_prefix p) refl h
  where
    by : (b : Bool) → is_prefix p ≡ b → (if b then Some (wants (Sign p ∷ fs) e) else None) ≡ Some next → IsAt all next ts
    by true q g = same_phase all (wants (Sign p ∷ fs) e) next ts g (in_sign o q)
    by false q g = cc

at_operand : (all : List TokenKind) (fs : List Frame) (e : Bool) (t : TokenKind) (ts : List TokenKind) (next : Phase)
    → Open all fs e (t ∷ ts) → on_operand fs e t ≡ Some next → IsAt all next ts
at_operand all fs e (token.Number n k) ts next o h = same_phase all (has fs e (literal_value n k.unsigned)) next ts h (fresh o number refl)
at_operand all fs e (token.CharConst byte) ts next o h = same_phase all (has fs e (character_value byte)) next ts h (fresh o constant refl)
at_operand all fs e (token.Name n) ts next o h = same_phase all (has fs e (truth false)) next ts h (fresh o name refl)
at_operand all fs e (token.Punct p) ts next o h = at_prefix all fs e p ts next o h
at_operand all fs e (token.Str s) ts next o h = cc
at_operand all fs e (token.HeaderName s) ts next o h = cc
at_operand all fs e (token.Header s) ts next o h = cc

raised : {all : List TokenKind} {l k : ℕ} {fs : List Frame} {e : Bool} {v : Value} {t : List TokenKind} → l ≤ k → Read all k fs e v t
    → Read all l fs e v t
raised le r =
    record {
      start = r.start;
      level = r.level;
      tree = r.tree;
      opened = r.opened;
      reads = r.reads;
      is = r.is;
      taken = r.taken;
      high = (let h = r.high in omega arith);
    }

-- a stack whose top waits at a level takes operands of that level
waits_not : (l k : ℕ) → not (nat_le l k) ≡ true → suc k ≤ l
waits_not l k e = grind (arith, nat_tests)

need_at : (l : ℕ) (fs : List Frame) → 2 ≤ l → waits l fs ≡ true → need fs ≤ l
need_at l [] le w = omega arith
need_at l (Bracket x ∷ fs) le w = omega arith
need_at l (Sign p ∷ fs) le w = waits_not l 11 w
need_at l (Left p a x ∷ fs) le w = waits_not l (own_level p) w
need_at l (Asks c x ∷ fs) le w = omega arith
need_at l (Chooses c a x ∷ fs) le w = omega arith
need_at l (Follows ∷ fs) le w = omega arith

two : (all : List TokenKind) (fs : List Frame) (e : Bool) (s : List TokenKind) → Open all fs e s → waits 2 fs ≡ true → need fs ≤ 1
two all [] e s o w = omega arith
two all (Bracket x ∷ fs) e s o w = omega arith
two all (Sign p ∷ fs) e s o w = cc
two all (Left p a x ∷ fs) e s (in_left {p = p'} {l = l'} o q r h n) w =
    let b = level_bounds p' l' q in
    let same = own_is p' l' q in
    let c = waits_not 2 (own_level p') w in
    absurd (omega arith)
two all (Asks c x ∷ fs) e s o w = omega arith
two all (Chooses c a x ∷ fs) e s o w = omega arith
two all (Follows ∷ fs) e s o w = omega arith

held : (fs : List Frame) → holds_comma fs ≡ true → need fs ≤ 0
held [] h = cc
held (Bracket x ∷ fs) h = omega arith
held (Sign p ∷ fs) h = cc
held (Left p a x ∷ fs) h = cc
held (Asks c x ∷ fs) h = omega arith
held (Chooses c a x ∷ fs) h = cc
held (Follows ∷ fs) h = cc

module _ (all ts : List TokenKind) (next : Phase) where
  at_colon : (fs : List Frame) (e : Bool) (v : Value) (s : List TokenKind) (k : ℕ) (x : Tree) → Open all fs e s
      → Reads k s x (token.Punct punct.Colon ∷ ts) → value e x ≡ Some v
      → on_colon fs v ≡ Some next → IsAt all next ts
  at_colon [] e v s k x o r h g = cc
  at_colon (Bracket d ∷ fs) e v s k x o r h g = cc
  at_colon (Sign p ∷ fs) e v s k x o r h g = cc
  at_colon (Left p a d ∷ fs) e v s k x o r h g = cc
  at_colon (Asks c d ∷ fs) e v s k x (in_question o q f n) r h g =
      same_phase all (wants (Chooses c v d ∷ fs) (d && not (is_true c))) next ts g (in_colon o q f (looser (omega arith) r) h n)
  at_colon (Chooses c a d ∷ fs) e v s k x o r h g = cc
  at_colon (Follows ∷ fs) e v s k x o r h g = cc

  at_close : (fs : List Frame) (e : Bool) (v : Value) (s : List TokenKind) (k : ℕ) (x : Tree) → Open all fs e s
      → Reads k s x (token.Punct punct.RightParen ∷ ts) → value e x ≡ Some v
      → on_close fs v ≡ Some next → IsAt all next ts
  at_close [] e v s k x o r h g = cc
  at_close (Bracket d ∷ fs) e v s k x (in_bracket o) r h g =
      same_phase all (has fs d v) next ts g (fresh o (brackets (looser (omega arith) r)) h)
  at_close (Sign p ∷ fs) e v s k x o r h g = cc
  at_close (Left p a d ∷ fs) e v s k x o r h g = cc
  at_close (Asks c d ∷ fs) e v s k x o r h g = cc
  at_close (Chooses c a d ∷ fs) e v s k x o r h g = cc
  at_close (Follows ∷ fs) e v s k x o r h g = cc

  at_comma : (fs : List Frame) (e : Bool) (v : Value) → Read all 0 fs e v (token.Punct punct.Comma ∷ ts)
      → (if holds_comma fs && not e then Some (wants (Follows ∷ fs) false) else None) ≡ Some next → IsAt all next ts
  at_comma fs e v r h = by (holds_comma fs) e refl h r
    where
      by : (b d : Bool) → holds_comma fs ≡ b → (if b && not d then Some (wants (Follows ∷ fs) false) else None) ≡ Some next
          → Read all 0 fs d v (token.Punct punct.Comma ∷ ts) → IsAt all next ts
      by true false q g r =
          same_phase all (wants (Follows ∷ fs) false) next ts g (in_comma r.opened (looser (omega arith) r.reads) r.is (held fs q))
      by true true q g r = cc
      by false d q g r = cc

  at_binary : (p : Punct) (o : Operand) → Reduced all (punct_pull p) o (token.Punct p ∷ ts) → (m : Option ℕ) → level_of p ≡ m
      → on_binary o p m ≡ Some next → IsAt all next ts
  at_binary p o r None q h = cc
  at_binary p o r (Some l) q h =
      let b = level_bounds p l q in
      let e = pull_is p l q in
      let w : waits l o.stack ≡ true = rw e at r.waiting in
      let high : l ≤ r.read.level = let g = r.read.high in omega arith in
      same_phase all (wants (Left p o.value o.evaluated ∷ o.stack) (evaluates_right o.evaluated p o.value)) next ts h
      (in_left r.read.opened q (looser high r.read.reads) r.read.is (need_at l o.stack b.0 w))

  at_punct : (p : Punct) (o : Operand) → Reduced all (punct_pull p) o (token.Punct p ∷ ts) → on_punct p o ≡ Some next → IsAt all next ts
  at_punct punct.Question o r h =
      same_phase all (wants (Asks o.value o.evaluated ∷ o.stack) (o.evaluated && is_true o.value)) next ts h
      (in_question r.read.opened (looser r.read.high r.read.reads) r.read.is
      (two all o.stack o.evaluated r.read.start r.read.opened r.waiting))
  at_punct punct.Colon o r h =
      at_colon o.stack o.evaluated o.value r.read.start r.read.level r.read.tree r.read.opened r.read.reads r.read.is h
  at_punct punct.RightParen o r h =
      at_close o.stack o.evaluated o.value r.read.start r.read.level r.read.tree r.read.opened r.read.reads r.read.is h
  at_punct punct.Comma o r h = at_comma o.stack o.evaluated o.value r.read h
  at_punct p o r h = at_binary p o r (level_of p) refl h

  at_operator : (t : TokenKind) (o : Operand) → Reduced all (pull t) o (t ∷ ts) → on_operator t o ≡ Some next → IsAt all next ts
  at_operator (token.Punct p) o r h = at_punct p o r h
  at_operator (token.Name n) o r h = cc
  at_operator (token.Number n k) o r h = cc
  at_operator (token.CharConst n) o r h = cc
  at_operator (token.Str n) o r h = cc
  at_operator (token.HeaderName n) o r h = cc
  at_operator (token.Header n) o r h = cc

below : (l : ℕ) → nat_le l 11 ≡ true → l ≤ 12
below l e = grind (arith, nat_tests)

abbrev low : Punct → Bool
low p = nat_le (punct_pull p) 11

lows : (p : Punct) → low p ≡ true
lows punct.Star = refl
lows _ = refl

pull_low : (t : TokenKind) → pull t ≤ 12
pull_low (token.Punct p) = below (punct_pull p) (lows p)
pull_low (token.Name n) = omega arith
pull_low (token.Number n k) = omega arith
pull_low (token.CharConst n) = omega arith
pull_low (token.Str n) = omega arith
pull_low (token.HeaderName n) = omega arith
pull_low (token.Header n) = omega arith

at_step : (all : List TokenKind) (ph : Phase) (t : TokenKind) (ts : List TokenKind) (next : Phase) → IsAt all ph (t ∷ ts)
    → step ph t ≡ Some next → IsAt all next ts
at_step all (wants fs e) t ts next i h = at_operand all fs e t ts next i h
at_step all (has fs e v) t ts next i h = by (reduced (pull t) fs e v) refl h
  where
    by : (m : Option Operand) → reduced (pull t) fs e v ≡ m → option_and_then (on_operator t) m ≡ Some next → IsAt all next ts
    by None q g = cc
    by (Some o) q g = at_operator all ts next t o (reduces all (pull t) (t ∷ ts) fs e v o q (raised (pull_low t) i)) g

pub record Found (all : List TokenKind) (v : Value) : Type 0 where
  pub tree : Tree
  pub reads : Reads conditional all tree []
  pub is : value true tree ≡ Some v

at_start_is : (all : List TokenKind) (e : Bool) (v : Value) (s : List TokenKind) (k : ℕ) (x : Tree) → Open all [] e s → Reads k s x []
    → value e x ≡ Some v → 1 ≤ k → Found all v
at_start_is all e v s k x at_start r h n = record { tree = x; reads = looser n r; is = h }

alone_is : (all : List TokenKind) (v : Value) (fs : List Frame) (e : Bool) (u : Value) → Read all 0 fs e u [] → whole fs u ≡ Some v
    → Found all v
alone_is all v [] e u r g =
    let same : u ≡ v = cc in
    at_start_is all e v r.start r.level r.tree r.opened r.reads (r.is ∙ ap (λ (x : Value). Some x) same) r.taken
alone_is all v (f ∷ fs) e u r g = cc

at_finish : (all : List TokenKind) (ph : Phase) (v : Value) → IsAt all ph [] → finish ph ≡ Some v → Found all v
at_finish all (wants fs e) v i h = cc
at_finish all (has fs e w) v i h = by (reduced 0 fs e w) refl h
  where
    by : (m : Option Operand) → reduced 0 fs e w ≡ m → option_and_then alone m ≡ Some v → Found all v
    by None q g = cc
    by (Some o) q g = let r = reduces all 0 [] fs e w o q (raised (omega arith) i) in alone_is all v o.stack o.evaluated o.value r.read g

at_run : (all ts : List TokenKind) (ph : Phase) (v : Value) → IsAt all ph ts → run ph ts ≡ Some v → Found all v
at_run all [] ph v i h = at_finish all ph v i h
at_run all (t ∷ ts) ph v i h = by (step ph t) refl h (at_run all ts)
  where
    by : (m : Option Phase) → step ph t ≡ m → option_and_then (λ next. run next ts) m ≡ Some v
        → ((next : Phase) (v : Value) → IsAt all next ts → run next ts ≡ Some v → Found all v) → Found all v
    by None q g go = cc
    by (Some next) q g go = go next v (at_step all ph t ts next i q) g

pub sound : (ts : List TokenKind) (v : Value) → run (wants [] true) ts ≡ Some v → Found ts v
sound ts v h = at_run ts ts (wants [] true) v at_start h
