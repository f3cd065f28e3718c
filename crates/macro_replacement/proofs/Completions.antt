-- What the loops keep: whatever the rest gives completes the whole.
use Rattle.std.proofs.Common.{◌≡◌, ℕ, ◌+◌, ◌≤◌, ◌<◌, Bool, List, [], ◌∷◌, ◌++◌, map, length, Option, Some, Ok, Err, refl, sym, ap, ◌∙◌, append_assoc}
use Rattle.std.specs.List.{slice_get}
use Rattle.std.proofs.lemmas.List.{append-nil, map-append}
use Rattle.fc_base.specs.declared.Place.{Place}
use Rattle.fc_base.specs.declared.Fault.{Fault}
use Rattle.fc_base.specs.declared.Fault.TheVariants.{Refused, NoMemory}
use Rattle.c_tokens.specs.declared.Token.{Token}
use Rattle.c_tokens.specs.declared.TokenKind.{TokenKind}
use Rattle.fc_base.specs.Answers.{Fails}
use Rattle.c_tokens.specs.Tokens.{token_limit}
use Rattle.macro_meaning.specs.Macros.{HideSet, Item, token, BodyPart, plain, parameter, Meaning, Macros, Argument}
use Rattle.macro_items.specs.declared.Item.{Item as Held}
use Rattle.macro_items.specs.Views.{views}
use Rattle.macro_meaning.specs.Turns.{meaning_of, Change, Turn, turn, by_meaning, stays, bad_call, becomes}
use Rattle.macro_meaning.specs.Replacement.{ReplacedList, behind, replacing, hidden, argument_text, too_many_at, bad_call_at, Expands, over, kept, refused_call, refused_argument, too_many, replaced, Substitutes, whole, own, refused, of_argument, Readies}

behind_more : (front new : List Item) (out : ReplacedList) → behind (front ++ new) out ≡ behind front (behind new out)
behind_more front new (Ok r) = ap (λ (ts : List Item). Ok (ts, r.1)) (append_assoc front new r.0)
behind_more front new (Err e) = refl

-- ---- a list, where `front` was expanded and `rest` is left

pub record Completes (ms : Macros) (depth from : ℕ) (all front : List Item) (count : ℕ) (rest : List Item) : Type 0 where
  pub completes : (out : ReplacedList) → Expands ms depth count rest out → Expands ms depth from all (behind front out)

module _ (ms : Macros) (depth from : ℕ) (all front : List Item) (count : ℕ) where
  pub completes_kept : (t : Item) (rest : List Item) → turn ms depth t rest ≡ stays
      → Completes ms depth from all front count (t ∷ rest) → Completes ms depth from all (front ++ t ∷ []) count rest
  completes_kept t rest e c =
      record { completes = λ out r. rw (behind_more front (t ∷ []) out) (c.completes (behind (t ∷ []) out) (kept e r)) }

  pub completes_moved : (t : Item) (ts new : List Item) (count' : ℕ)
      → ((out : ReplacedList) → Expands ms depth count' new out → Expands ms depth count (t ∷ ts) out)
      → Completes ms depth from all front count (t ∷ ts) → Completes ms depth from all front count' new
  completes_moved t ts new count' m c = record { completes = λ out r. c.completes out (m out r) }

  pub completes_over : Completes ms depth from all front count [] → Expands ms depth from all (Ok (front, count))
  completes_over c =
      let r : Expands ms depth from all (Ok (front ++ [], count)) = c.completes (Ok ([], count)) over in
      rw append-nil at r

  pub completes_refused : (f : Fault) (rest : List Item) → Fails f (Expands ms depth count rest)
      → Completes ms depth from all front count rest → Fails f (Expands ms depth from all)
  completes_refused NoMemory rest m c = tt
  completes_refused (Refused r) rest m c = c.completes (Err r) m

-- ---- a replacement list, where `front` was replacing and `rest` is left

pub record Finishes (ms : Macros) (depth : ℕ) (place : Place) (hide : HideSet) (from : ℕ) (args : List Argument) (body : List BodyPart)
    (front : List Item) (count : ℕ) (now : List Argument) (rest : List BodyPart) : Type 0 where
  pub finishes : (out : ReplacedList) → Substitutes ms depth count place hide now rest out
      → Substitutes ms depth from place hide args body (behind front out)

module _ (ms : Macros) (depth : ℕ) (place : Place) (hide : HideSet) (from : ℕ) (args : List Argument) (body : List BodyPart)
    (front : List Item) (count : ℕ) (now : List Argument) where
  finishes_plain : (kind : TokenKind) (spaced : Bool) (rest : List BodyPart)
      → Finishes ms depth place hide from args body front count now (plain kind spaced ∷ rest)
      → Finishes ms depth place hide from args body (front ++ replacing place hide kind spaced ∷ []) count now rest
  finishes_plain kind spaced rest f =
      record {
        finishes = λ out r. rw (behind_more front (replacing place hide kind spaced ∷ []) out)
            (f.finishes (behind (replacing place hide kind spaced ∷ []) out) (own r));
      }

  finishes_parameter : (k : ℕ) (rest : List BodyPart) (count' : ℕ) (now' : List Argument) → Readies ms depth count now k (Ok (now', count'))
      → Finishes ms depth place hide from args body front count now (parameter k ∷ rest)
      → Finishes ms depth place hide from args body (front ++ map (hidden hide) (argument_text (slice_get now' k))) count' now' rest
  finishes_parameter k rest count' now' p f = record {
    finishes = λ out r. rw (behind_more front (map (hidden hide) (argument_text (slice_get now' k))) out)
        (f.finishes (behind (map (hidden hide) (argument_text (slice_get now' k))) out) (of_argument p r));
  }

  pub finishes_whole : Finishes ms depth place hide from args body front count now []
      → Substitutes ms depth from place hide args body (Ok (front, count))
  finishes_whole f =
      let r : Substitutes ms depth from place hide args body (Ok (front ++ [], count)) = f.finishes (Ok ([], count)) whole in
      rw append-nil at r

  pub parameter_refused : (e : Fault) (k : ℕ) (rest : List BodyPart) → Fails e (Readies ms depth count now k)
      → Finishes ms depth place hide from args body front count now (parameter k ∷ rest)
      → Fails e (Substitutes ms depth from place hide args body)
  parameter_refused NoMemory k rest m f = tt
  parameter_refused (Refused r) k rest m f = f.finishes (Err r) (refused m)

-- ---- a replacement list, where the tokens that replace it stand behind others

pub record Adds (ms : Macros) (depth : ℕ) (place : Place) (hide : HideSet) (from : ℕ) (args : List Argument) (body : List BodyPart)
    (before after : List Held) (count : ℕ) (now : List Argument) (rest : List BodyPart) : Type 0 where
  pub added : List Item
  pub stands : views after ≡ views before ++ added
  pub owed : Finishes ms depth place hide from args body added count now rest

module _ (ms : Macros) (depth : ℕ) (place : Place) (hide : HideSet) (from : ℕ) (args : List Argument) (body : List BodyPart)
    (before after : List Held) (count : ℕ) (now : List Argument) where
  pub adds_plain : (kind : TokenKind) (spaced : Bool) (rest : List BodyPart) (new : List Held)
      → views new ≡ views after ++ replacing place hide kind spaced ∷ []
      → Adds ms depth place hide from args body before after count now (plain kind spaced ∷ rest)
      → Adds ms depth place hide from args body before new count now rest
  adds_plain kind spaced rest new is a = record {
    added = a.added ++ replacing place hide kind spaced ∷ [];
    stands = rw (is, a.stands, append_assoc) refl;
    owed = finishes_plain ms depth place hide from args body a.added count now kind spaced rest a.owed;
  }

  pub adds_parameter : (k : ℕ) (rest : List BodyPart) (new : List Held) (count' : ℕ) (now' : List Argument)
      → Readies ms depth count now k (Ok (now', count'))
      → views new ≡ views after ++ map (hidden hide) (argument_text (slice_get now' k))
      → Adds ms depth place hide from args body before after count now (parameter k ∷ rest)
      → Adds ms depth place hide from args body before new count' now' rest
  adds_parameter k rest new count' now' p is a = record {
    added = a.added ++ map (hidden hide) (argument_text (slice_get now' k));
    stands = rw (is, a.stands, append_assoc) refl;
    owed = finishes_parameter ms depth place hide from args body a.added count now k rest count' now' p a.owed;
  }

-- ---- the turn of a token

module _ (ms : Macros) (depth count : ℕ) (t : Item) (ts : List Item) (m : Meaning) (named : Some m ≡ meaning_of ms t) where
  turns : (x : Turn) → by_meaning depth t ts (Some m) ≡ x → turn ms depth t ts ≡ x
  turns x e = ap (λ (o : Option Meaning). by_meaning depth t ts o) (sym named) ∙ e

  pub call_refused : by_meaning depth t ts (Some m) ≡ bad_call → Expands ms depth count (t ∷ ts) (Err (bad_call_at t.place))
  call_refused e = refused_call (turns bad_call e)

  module _ (c : Change) (e : by_meaning depth t ts (Some m) ≡ becomes c) where
    pub argument_refused : (f : Fault) → Fails f (Substitutes ms depth count t.place c.hide c.arguments c.body)
        → Fails f (Expands ms depth count (t ∷ ts))
    argument_refused NoMemory s = tt
    argument_refused (Refused r) s = refused_argument (turns _ e) s

    module _ (new : List Item) (count' : ℕ) (s : Substitutes ms depth count t.place c.hide c.arguments c.body (Ok (new, count'))) where
      pub count_refused : token_limit < count' + length new → Expands ms depth count (t ∷ ts) (Err (too_many_at t.place))
      count_refused lt = too_many (turns _ e) s lt

      pub it_becomes : count' + length new ≤ token_limit → (out : ReplacedList) → Expands ms depth (count' + length new) (new ++ c.rest) out
          → Expands ms depth count (t ∷ ts) out
      it_becomes le out r = replaced (turns _ e) s le r

-- ---- a list whose tokens are written down as they come

pub record Wrote (ms : Macros) (from : ℕ) (all : List Item) (before after : List Token) (count : ℕ) (rest : List Item) : Type 0 where
  pub written : List Item
  pub stands : after ≡ before ++ map token written
  pub owed : Completes ms 0 from all written count rest

module _ (ms : Macros) (from : ℕ) (all : List Item) (before after : List Token) (count : ℕ) where
  pub wrote_kept : (t : Item) (rest : List Item) (x : Token) → x ≡ token t → turn ms 0 t rest ≡ stays
      → Wrote ms from all before after count (t ∷ rest) → Wrote ms from all before (after ++ x ∷ []) count rest
  wrote_kept t rest x is e w = record {
    written = w.written ++ t ∷ [];
    stands = rw (w.stands, is, map-append, append_assoc) refl;
    owed = completes_kept ms 0 from all w.written count t rest e w.owed;
  }

  pub wrote_moved : (t : Item) (ts new : List Item) (count' : ℕ)
      → ((out : ReplacedList) → Expands ms 0 count' new out → Expands ms 0 count (t ∷ ts) out)
      → Wrote ms from all before after count (t ∷ ts) → Wrote ms from all before after count' new
  wrote_moved t ts new count' m w =
      record { written = w.written; stands = w.stands; owed = completes_moved ms 0 from all w.written count t ts new count' m w.owed }
