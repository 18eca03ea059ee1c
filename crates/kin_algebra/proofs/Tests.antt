-- Tests that are joined, and tests that say the same.
use Rattle.std.proofs.Common.{◌≡◌, refl, sym, ap, ◌∙◌, Bool, true, false, ◌&&◌, ◌||◌}
use Rattle.std.proofs.lemmas.Bool.{and_parts, and_from}

pub same_test : (a b : Bool) → (a ≡ true → b ≡ true) → (b ≡ true → a ≡ true) → a ≡ b
same_test true b f g = sym (f refl)
same_test false true f g = g refl
same_test false false f g = refl

pub three_parts : (a b c : Bool) → a && b && c ≡ true → (a ≡ true) × (b ≡ true) × (c ≡ true)
three_parts a b c e = let p = and_parts (a && b) c e in let q = and_parts a b p.0 in (q.0, q.1, p.1)

pub three_from : (a b c : Bool) → a ≡ true → b ≡ true → c ≡ true → a && b && c ≡ true
three_from a b c e f g = and_from (a && b) c (and_from a b e f) g

-- a test that says what another says as well
pub and_same : (a b : Bool) → (a ≡ true → b ≡ true) → a ≡ a && b
and_same true b f = sym (f refl)
and_same false b f = refl

pub or_none : (a : Bool) → a || false ≡ a
or_none true = refl
or_none false = refl

pub or_swapped : (a b : Bool) → a || b ≡ b || a
or_swapped true b = sym (true_last b)
  where
    true_last : (b : Bool) → b || true ≡ true
    true_last true = refl
    true_last false = refl
or_swapped false b = sym (or_none b)

pub or_assoc : (a b c : Bool) → (a || b) || c ≡ a || (b || c)
or_assoc true b c = refl
or_assoc false b c = refl

pub or_exchanged : (a b c : Bool) → a || (b || c) ≡ b || (a || c)
or_exchanged a b c = sym (or_assoc a b c) ∙ ap (λ t. t || c) (or_swapped a b) ∙ or_assoc b a c
