-- Marks stay sound, and a mark that is taken back is gone.
use Rattle.std.proofs.Common.{◌≡◌, ◌⊎◌, inl, inr, refl, sym, ap, ◌∙◌, subst, arith, List, [], ◌∷◌, ◌++◌, ℕ, zero, suc, ◌<◌, ◌≤◌, Bool, true, false, not, cond, ◌&&◌, nat_eq, Some, take, length}
use Rattle.std.specs.Prelude.{slice_get}
use Rattle.std.proofs.lemmas.Bool.{cases_eq, both_ways, or_from, or_cases, or_parts, ne_eqb, eqb-true, eqb-false}
use Rattle.kin_motion.specs.Numbers.{is_in, IsOnce}
use Rattle.kin_motion.proofs.Members.{is_in-push}
use Rattle.kin_sorted.specs.Marks.{Marks, AreMarks, marked, with_entering, with_leaving, without, without_all}
use Rattle.kin_sorted.specs.declared.single.Single.{Single}
use Rattle.kin_sorted.specs.declared.single.Single.TheVariants.{Neither, Enters, Leaves}
use Rattle.kin_sorted.specs.Sorting.{MayPass, marks_for, unmarked}
use Rattle.kin_sorted.proofs.ArrangeLaws.{marked-members}
use Rattle.kin_sorted.proofs.ListLaws.{is_in-without, is_in-without_all, not_in-without}
use Rattle.kin_sorted.proofs.RowLaws.{is_in_from_get}

-- what is at no place isn't in the list
pub in_none : (xs : List ℕ) (x n : ℕ) → length xs ≤ n → ((p : ℕ) → p < n → slice_get xs p ≡ Some x → ⊥) → is_in x xs ≡ false
in_none [] x n e h = refl
in_none (y ∷ ys) x n e h =
    or_from (nat_eq x y) (is_in x ys)
    (ne_eqb x y (λ f. h zero (omega arith) (ap (λ (m : ℕ). Some m) (sym f))))
    (in_none ys x (length ys) (omega arith) (λ p l. h (suc p) (omega arith)))

pub once-push : (x : ℕ) (xs : List ℕ) → IsOnce xs → is_in x xs ≡ false → IsOnce (xs ++ x ∷ [])
once-push x [] once out = (refl, tt)
once-push x (y ∷ ys) once out =
    let n = or_parts (nat_eq x y) (is_in x ys) out in
    (is_in-push y x ys ∙ or_from (nat_eq y x) (is_in y ys) (ne_eqb y x (λ e. eqb-false x y n.0 (sym e))) once.0, once-push x ys once.1 n.1)

pub once-without : (who : ℕ) (xs : List ℕ) → IsOnce xs → IsOnce (without who xs)
once-without who [] once = tt
once-without who (x ∷ xs) once = at (nat_eq who x) refl (once-without who xs once.1)
  where
    at : (b : Bool) → nat_eq who x ≡ b → IsOnce (without who xs) → IsOnce (cond b (without who xs) (x ∷ without who xs))
    at true e rest = rest
    at false e rest = (is_in-without x who xs (λ f. eqb-false who x e (sym f)) ∙ once.0, rest)

-- what is in the list without an item is in the list
pub in-without : (i who : ℕ) (xs : List ℕ) → is_in i (without who xs) ≡ true → is_in i xs ≡ true
in-without i who xs h = elim (cases_eq i who) [
  | inl e ↦ absurd (both_ways _ (ap (λ j. is_in j (without who xs)) e ∙ not_in-without who xs) h)
  | inr n ↦ sym (is_in-without i who xs n) ∙ h
]

-- one more has come before the item at the place
pub fresh : (xs : List ℕ) (k x : ℕ) → IsOnce xs → slice_get xs k ≡ Some x → is_in x (take k xs) ≡ false
fresh [] k x once h = absurd cc
fresh (y ∷ ys) zero x once h = refl
fresh (y ∷ ys) (suc k) x once h =
    or_from (nat_eq x y) (is_in x (take k ys)) (ne_eqb x y (λ e. both_ways _ once.0 (ap (λ n. is_in n ys) (sym e) ∙ is_in_from_get ys k x h))) (fresh ys k x once.1 h)

module _ (m : Marks) (room : ℕ) (items : List ℕ) (i : ℕ) (marks : AreMarks m room items) where
  -- a pushed one, or one of before
  in_pushed : (j : ℕ) (xs : List ℕ) → is_in j (xs ++ i ∷ []) ≡ true → (j ≡ i) ⊎ (is_in j xs ≡ true)
  in_pushed j xs h = elim (or_cases (nat_eq j i) (is_in j xs) (sym (is_in-push j i xs) ∙ h)) [
    | inl e ↦ inl (eqb-true j i e)
    | inr t ↦ inr t
  ]

  pub entering_sound : i < room → is_in i (marked m items) ≡ false → AreMarks (with_entering i m) room items
  entering_sound low out = at (is_in i m.leaving) refl
    where
      parts : (is_in i m.entering ≡ false) × (is_in i (without_all m.leaving items) ≡ false)
      parts = or_parts (is_in i m.entering) (is_in i (without_all m.leaving items)) (sym (marked-members m items i) ∙ out)

      no_member : (a b : Bool) → b ≡ false → a && not b ≡ false → a ≡ false
      no_member true true e h = absurd cc
      no_member true false e h = absurd cc
      no_member false b e h = refl

      at : (b : Bool) → is_in i m.leaving ≡ b → AreMarks (cond b (record { entering = m.entering; leaving = without i m.leaving })
          (record { entering = m.entering ++ i ∷ []; leaving = m.leaving })) room items
      at true e = record {
        once = marks.once;
        entering_once = marks.entering_once;
        leaving_once = once-without i m.leaving marks.leaving_once;
        within = marks.within;
        new = marks.new;
        member = λ j h. marks.member j (in-without j i m.leaving h);
      }
      at false e =
          let absent : is_in i items ≡ false = no_member (is_in i items) (is_in i m.leaving) e (sym (is_in-without_all i m.leaving items) ∙ parts.1) in
          record {
            once = marks.once;
            entering_once = once-push i m.entering marks.entering_once parts.0;
            leaving_once = marks.leaving_once;
            within = λ j h. elim (in_pushed j m.entering h) [
              | inl f ↦ subst (λ n. n < room) (sym f) low
              | inr t ↦ marks.within j t
            ];
            new = λ j h. elim (in_pushed j m.entering h) [
              | inl f ↦ ap (λ n. is_in n items) f ∙ absent
              | inr t ↦ marks.new j t
            ];
            member = marks.member;
          }

  pub leaving_sound : is_in i (marked m items) ≡ true → AreMarks (with_leaving i m) room items
  leaving_sound there = at (is_in i m.entering) refl
    where
      both : (a b : Bool) → a && not b ≡ true → (a ≡ true) × (b ≡ false)
      both true true h = absurd cc
      both true false h = (refl, refl)
      both false b h = absurd cc

      at : (b : Bool) → is_in i m.entering ≡ b → AreMarks (cond b (record { entering = without i m.entering; leaving = m.leaving })
          (record { entering = m.entering; leaving = m.leaving ++ i ∷ [] })) room items
      at true e = record {
        once = marks.once;
        entering_once = once-without i m.entering marks.entering_once;
        leaving_once = marks.leaving_once;
        within = λ j h. marks.within j (in-without j i m.entering h);
        new = λ j h. marks.new j (in-without j i m.entering h);
        member = marks.member;
      }
      at false e =
          let stays : is_in i (without_all m.leaving items) ≡ true = elim (or_cases (is_in i m.entering) (is_in i (without_all m.leaving items)) (sym (marked-members m items i) ∙ there)) [
            | inl t ↦ absurd (both_ways _ e t)
            | inr t ↦ t
          ] in
          let known = both (is_in i items) (is_in i m.leaving) (sym (is_in-without_all i m.leaving items) ∙ stays) in
          record {
            once = marks.once;
            entering_once = marks.entering_once;
            leaving_once = once-push i m.leaving marks.leaving_once known.1;
            within = marks.within;
            new = marks.new;
            member = λ j h. elim (in_pushed j m.leaving h) [
              | inl f ↦ ap (λ n. is_in n items) f ∙ known.0
              | inr t ↦ marks.member j t
            ];
          }

-- where no mark waits
pub no_marks : (room : ℕ) (items : List ℕ) → IsOnce items → AreMarks unmarked room items
no_marks room items once = record {
  once = once;
  entering_once = tt;
  leaving_once = tt;
  within = λ i h. absurd cc;
  new = λ i h. absurd cc;
  member = λ i h. absurd cc;
}

-- where at most one item enters or leaves
pub single_sound : (single : Single) (room : ℕ) (items : List ℕ) → IsOnce items → MayPass single room items → AreMarks (marks_for single) room items
single_sound Neither room items once may = no_marks room items once
single_sound (Enters i) room items once may = record {
  once = once;
  entering_once = (refl, tt);
  leaving_once = tt;
  within = λ j h. subst (λ n. n < room) (sym (only j h)) may.0;
  new = λ j h. ap (λ n. is_in n items) (only j h) ∙ may.1;
  member = λ j h. absurd cc;
}
  where
    only : (j : ℕ) → is_in j (i ∷ []) ≡ true → j ≡ i
    only j h = elim (or_cases (nat_eq j i) false h) [ inl e ↦ eqb-true j i e | inr t ↦ absurd cc ]
single_sound (Leaves i) room items once may = record {
  once = once;
  entering_once = tt;
  leaving_once = (refl, tt);
  within = λ j h. absurd cc;
  new = λ j h. absurd cc;
  member = λ j h. ap (λ n. is_in n items) (only j h) ∙ may;
}
  where
    only : (j : ℕ) → is_in j (i ∷ []) ≡ true → j ≡ i
    only j h = elim (or_cases (nat_eq j i) false h) [ inl e ↦ eqb-true j i e | inr t ↦ absurd cc ]
