-- What moves on the streams in one call and in the next.
use Rattle.std.proofs.Common.{◌≡◌, ℕ, ◌≤◌, ◌==◌, List, [], ◌∷◌, ◌++◌, map, filter, Option, None, Some, refl, sym, ◌∙◌, ap, subst, append_assoc, arith}
use Rattle.std.proofs.lemmas.List.{map-append}
use Rattle.std.proofs.lemmas.List.Elements.{filter-append}
use Rattle.fc_base.specs.Outside.{Takes, Appends, IsAtEnd, IsFront}
use Rattle.run_meaning.specs.Runs.{Shown, on_descriptor, bytes_on}
use Rattle.run_meaning.specs.Worlds.{AreBytes, Input}
use Rattle.run_meaning.specs.declared.streams.Stream.TheVariants.{Input as OfInput, Out as OfOut, Err as OfErr}
use Rattle.run_meaning.specs.Objects.{Streams, StreamState, streams, Tells, Offers, Moves, MovesUpTo, NoneFell}
use Rattle.run_meaning.proofs.Moved.{bytes_on-same, bytes_on-other, takes-none, takes-append, appends-none, appends-append, are_bytes-append, ended_stays}
use Rattle.byte_machine.specs.Performing.{behind, HaveMoved}

-- the bytes of one descriptor in two lists
pub bytes_on-append : (d : ℕ) (a b : Shown) → bytes_on d (a ++ b) ≡ bytes_on d a ++ bytes_on d b
bytes_on-append d a b =
    ap (map (λ (pair : ℕ × ℕ). pair.1)) (filter-append (λ (pair : ℕ × ℕ). pair.0 == d) a b)
    ∙ map-append (λ (pair : ℕ × ℕ). pair.1) (filter (λ (pair : ℕ × ℕ). pair.0 == d) a) (filter (λ (pair : ℕ × ℕ). pair.0 == d) b)

pub on_descriptor-append : (d : ℕ) (a b : List ℕ) → on_descriptor d (a ++ b) ≡ on_descriptor d a ++ on_descriptor d b
on_descriptor-append d a b = map-append (λ (byte : ℕ). (d, byte)) a b

pub moves-append : (a b : Shown) (x y z : Streams) → Moves a x y → Moves b y z → Moves (a ++ b) x z
moves-append a b x y z p q = record {
  taken = subst (λ l. Takes l x.input.told z.input.told) (sym (bytes_on-append 0 a b))
      (takes-append (bytes_on 0 a) (bytes_on 0 b) x.input.told y.input.told z.input.told p.taken q.taken);
  on_out = subst (λ l. Appends l x.out.told z.out.told) (sym (bytes_on-append 1 a b))
      (appends-append (bytes_on 1 a) (bytes_on 1 b) x.out.told y.out.told z.out.told p.on_out q.on_out);
  on_err = subst (λ l. Appends l x.err.told z.err.told) (sym (bytes_on-append 2 a b))
      (appends-append (bytes_on 2 a) (bytes_on 2 b) x.err.told y.err.told z.err.told p.on_err q.on_err);
}

pub fell-both : (x y z : Streams) → NoneFell x y → NoneFell y z → NoneFell x z
fell-both x y z p q = λ which. let a = p which in let b = q which in omega (arith, a, b)

-- one call after the other
pub have_moved-append : (a b : Shown) (x y z : Streams) → HaveMoved a x y → HaveMoved b y z → HaveMoved (a ++ b) x z
have_moved-append a b x y z p q = record {
  moves = moves-append a b x y z p.moves q.moves;
  fell = fell-both x y z p.fell q.fell;
  are_bytes = subst AreBytes (sym (bytes_on-append 0 a b)) (are_bytes-append (bytes_on 0 a) (bytes_on 0 b) p.are_bytes q.are_bytes);
  untold = λ none. ended_stays (bytes_on 0 b) y.input.told z.input.told (p.untold none) q.untold q.moves.taken;
}

-- nothing moved
pub have_moved-none : (x : Streams) → HaveMoved [] x x
have_moved-none x = record {
  moves = record { taken = takes-none x.input.told; on_out = appends-none x.out.told; on_err = appends-none x.err.told };
  fell = λ which. omega arith;
  are_bytes = tt;
  untold = λ none. subst IsAtEnd (sym none) tt;
}

-- a line on standard error
pub have_moved-err : (line : List ℕ) (input out err err' : StreamState) → Appends line err.told err'.told → err.faults ≤ err'.faults
    → HaveMoved (on_descriptor 2 line) (streams input out err) (streams input out err')
have_moved-err line input out err err' appended count = record {
  moves = record {
    taken = subst (λ bytes. Takes bytes input.told input.told) (sym (bytes_on-other 0 2 line refl)) (takes-none input.told);
    on_out = subst (λ bytes. Appends bytes out.told out.told) (sym (bytes_on-other 1 2 line refl)) (appends-none out.told);
    on_err = subst (λ bytes. Appends bytes err.told err'.told) (sym (bytes_on-same 2 line refl)) appended;
  };
  fell = fell;
  are_bytes = subst AreBytes (sym (bytes_on-other 0 2 line refl)) tt;
  untold = λ none. subst IsAtEnd (sym none) tt;
} where
  fell : NoneFell (streams input out err) (streams input out err')
  fell OfInput = omega arith
  fell OfOut = omega arith
  fell OfErr = count

-- what is left of an input, behind the bytes that were taken, is what was offered
tells-behind : (t : List ℕ) (x y : Option (List ℕ)) (bytes : List ℕ) → AreBytes t → (x ≡ None → IsAtEnd y) → Takes t x y → Tells y bytes
    → Tells x (t ++ bytes)
tells-behind t None None bytes are untold takes tells = are_bytes-append t bytes are tells
tells-behind t None (Some b) bytes are untold takes tells =
    are_bytes-append t bytes are (subst AreBytes (sym (untold refl) ∙ tells) tt)
tells-behind t (Some a) None bytes are untold takes tells = absurd takes
tells-behind t (Some a) (Some b) bytes are untold takes tells = takes ∙ ap (λ l. t ++ l) tells

pub offers-behind : (moved : Shown) (x y : Streams) (rest : Input) → HaveMoved moved x y → Offers y rest → Offers x (behind moved rest)
offers-behind moved x y rest have offers = record {
  bytes = tells-behind (bytes_on 0 moved) x.input.told y.input.told rest.bytes have.are_bytes have.untold have.moves.taken offers.bytes;
  answers = offers.answers;
}

-- an input that some streams offer
some_bytes : Option (List ℕ) → List ℕ
some_bytes None = []
some_bytes (Some bytes) = bytes

pub some_input : Streams → Input
some_input x = record { bytes = some_bytes x.input.told; answers = [] }

pub offers-some : (x : Streams) → Offers x (some_input x)
unfolding some_bytes some_input
offers-some x = record { bytes = tells x.input.told; answers = refl } where
  tells : (told : Option (List ℕ)) → Tells told (some_bytes told)
  tells None = tt
  tells (Some bytes) = refl

-- a front on each descriptor
front_on : (d : ℕ) (front whole : Shown) → IsFront front whole → IsFront (bytes_on d front) (bytes_on d whole)
front_on d front whole is = (bytes_on d is.0, ap (bytes_on d) is.1 ∙ bytes_on-append d front is.0)

pub moves_up_to : (shown front next : Shown) (x y z : Streams) → Moves shown x y → Moves front y z → IsFront front next
    → MovesUpTo shown next x z
moves_up_to shown front next x y z p q is = record {
  taken = (
    bytes_on 0 front,
    front_on 0 front next is,
    takes-append (bytes_on 0 shown) (bytes_on 0 front) x.input.told y.input.told
        z.input.told p.taken q.taken,
  );
  on_out = (
    bytes_on 1 front,
    front_on 1 front next is,
    appends-append (bytes_on 1 shown) (bytes_on 1 front) x.out.told y.out.told
        z.out.told p.on_out q.on_out,
  );
  on_err = (
    bytes_on 2 front,
    front_on 2 front next is,
    appends-append (bytes_on 2 shown) (bytes_on 2 front) x.err.told y.err.told
        z.err.told p.on_err q.on_err,
  );
}
