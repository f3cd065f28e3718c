-- Steps of a reading that may fail, one behind another.
use Rattle.std.proofs.Common.{◌≡◌, Option, Some, None, refl, ◌∙◌}
use Rattle.std.specs.Prelude.{IfSome}
use Rattle.parse_reading.specs.Reading.{◌>>=◌}

pub bind_each : {A B : Type 0} (o : Option A) (f g : A → Option B) → ((x : A) → f x ≡ g x) → (o >>= f) ≡ (o >>= g)
bind_each None f g e = refl
bind_each (Some x) f g e = e x

pub bind_same : {A B : Type 0} (o : Option A) (f g : A → Option B) → IfSome o (λ x. f x ≡ g x) → (o >>= f) ≡ (o >>= g)
bind_same None f g e = refl
bind_same (Some x) f g e = e

pub bind_made : {A B C : Type 0} (o : Option A) (f : A → B) (g : B → Option C) → (o >>= λ x. g (f x)) ≡ ((o >>= λ x. Some (f x)) >>= g)
bind_made None f g = refl
bind_made (Some x) f g = refl

pub bind_bind : {A B C : Type 0} (o : Option A) (f : A → Option B) (g : B → Option C) → ((o >>= f) >>= g) ≡ (o >>= λ x. f x >>= g)
bind_bind None f g = refl
bind_bind (Some x) f g = refl

-- what a part's failing says of the whole, also where the whole has been read on
pub none_along : {A P : Type 0} {a b : Option A} → a ≡ b → (P → b ≡ None) → P → a ≡ None
none_along same fails p = same ∙ fails p
