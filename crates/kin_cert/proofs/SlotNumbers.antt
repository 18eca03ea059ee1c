-- Each number that a form names stands in exactly one place of its slots.
use Rattle.std.proofs.Common.{◌≡◌, refl, sym, ap, subst, ◌∙◌, arith, List, [], ◌∷◌, length, get_or, ℕ, zero, suc, ◌<◌, ◌≤◌, Bool, true, false, cond, ◌||◌, nat_eq, eqb-true, Some, None}
use Rattle.std.proofs.lemmas.Option.{same_Some, none-some}
use Rattle.std.proofs.lemmas.Bool.{or_from}
use Rattle.std.proofs.lemmas.Bool.Decides.{nat_tests}
use Rattle.kin_motion.specs.declared.form.Form.{Form}
use Rattle.kin_motion.specs.declared.form.Form.TheVariants.{Line, Turn, Slope, Dist}
use Rattle.kin_motion.specs.Numbers.{is_in}
use Rattle.kin_motion.specs.Forms.{numbers_of, names}
use Rattle.kin_cert.specs.Names.{first_named, slot_number}

itself : (n : ℕ) → nat_eq n n ≡ true
itself n = grind (arith, nat_tests)

or_parts : (a b : Bool) → a || b ≡ false → (a ≡ false) × (b ≡ false)
or_parts true b e = absurd cc
or_parts false b e = (refl, e)

or_second : (a b : Bool) → b ≡ true → a || b ≡ true
or_second true b e = refl
or_second false b e = e

-- what stands there is one of the numbers, and none of those before
stands : (before ns : List ℕ) (k n : ℕ) → get_or (first_named before ns) k None ≡ Some n → (is_in n ns ≡ true) × (is_in n before ≡ false)
stands before [] k n e = absurd (none-some n e)
stands before (m ∷ ns) zero n e = at (is_in m before) refl e
  where
    at : (b : Bool) → is_in m before ≡ b → cond b None (Some m) ≡ Some n → (is_in n (m ∷ ns) ≡ true) × (is_in n before ≡ false)
    at true f g = absurd (none-some n g)
    at false f g =
        let is : m ≡ n = same_Some m n g in (
          ap (λ (b : Bool). b || is_in n ns) (subst (λ (x : ℕ). nat_eq n x ≡ true) (sym is) (itself n)),
          subst (λ (x : ℕ). is_in x before ≡ false) is f,
        )
stands before (m ∷ ns) (suc k) n e =
    let r = stands (m ∷ before) ns k n e in
    (or_second (nat_eq n m) (is_in n ns) r.0, (or_parts (nat_eq n m) (is_in n before) r.1).1)

-- a number that isn't among those before stands somewhere
somewhere : (before ns : List ℕ) (n : ℕ) → is_in n ns ≡ true → is_in n before ≡ false → (k : ℕ) × (k < length ns) × (get_or (first_named before ns) k None ≡ Some n)
somewhere before [] n e f = absurd cc
somewhere before (m ∷ ns) n e f = at (nat_eq n m) refl e (somewhere (m ∷ before) ns n)
  where
    at : (b : Bool) → nat_eq n m ≡ b → b || is_in n ns ≡ true → (is_in n ns ≡ true → is_in n (m ∷ before) ≡ false → (k : ℕ) × (k < length ns) × (get_or (first_named (m ∷ before) ns) k None ≡ Some n)) → (k : ℕ) × (k < length (m ∷ ns)) × (get_or (first_named before (m ∷ ns)) k None ≡ Some n)
    at true g h behind =
        let is : n ≡ m = eqb-true n m g in
        (0, omega arith, ap (λ (b : Bool). cond b None (Some m)) (subst (λ (x : ℕ). is_in x before ≡ false) is f) ∙ ap (λ (x : ℕ). Some x) (sym is))
    at false g h behind =
        let r = behind h (or_from (nat_eq n m) (is_in n before) g f) in
        (suc r.0, omega (arith, r.1), r.2)

-- in one place
clash : (before ns : List ℕ) (m k n : ℕ) → cond (is_in m before) None (Some m) ≡ Some n → get_or (first_named (m ∷ before) ns) k None ≡ Some n → ⊥
clash before ns m k n e f = at (is_in m before) e
  where
    at : (b : Bool) → cond b None (Some m) ≡ Some n → ⊥
    at true g = none-some n g
    at false g =
        let apart : nat_eq n m ≡ false = (or_parts (nat_eq n m) (is_in n before) (stands (m ∷ before) ns k n f).1).0 in
        let same : nat_eq n m ≡ true = subst (λ (x : ℕ). nat_eq n x ≡ true) (sym (same_Some m n g)) (itself n) in
        cc

one_place : (before ns : List ℕ) (k l n : ℕ) → get_or (first_named before ns) k None ≡ Some n → get_or (first_named before ns) l None ≡ Some n → k ≡ l
one_place before [] k l n e f = absurd (none-some n e)
one_place before (m ∷ ns) zero zero n e f = refl
one_place before (m ∷ ns) zero (suc l) n e f = absurd (clash before ns m l n e f)
one_place before (m ∷ ns) (suc k) zero n e f = absurd (clash before ns m k n f e)
one_place before (m ∷ ns) (suc k) (suc l) n e f = ap suc (one_place (m ∷ before) ns k l n e f)

few : (f : Form) → length (numbers_of f) ≤ 4
few (Line dx dy off i j) = omega arith
few (Turn i j k) = omega arith
few (Slope i j k l) = omega arith
few (Dist i j k l) = omega arith

pub named-there : (f : Form) (n : ℕ) → names f n ≡ true → (k : ℕ) × (k < 4) × (slot_number (numbers_of f) k ≡ Some n)
named-there f n e =
    let r = somewhere [] (numbers_of f) n e refl in
    (r.0, omega (arith, r.1, few f), r.2)

pub there-named : (f : Form) (k n : ℕ) → slot_number (numbers_of f) k ≡ Some n → names f n ≡ true
there-named f k n e = (stands [] (numbers_of f) k n e).0

pub one-there : (ns : List ℕ) (k l n : ℕ) → slot_number ns k ≡ Some n → slot_number ns l ≡ Some n → k ≡ l
one-there ns k l n e f = one_place [] ns k l n e f
