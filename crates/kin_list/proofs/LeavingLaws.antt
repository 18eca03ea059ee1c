-- The members without one that leaves.
use Rattle.std.proofs.Common.{◌≡◌, ◌≢◌, ◌⊎◌, inl, inr, refl, sym, ap, ◌∙◌, subst, arith, List, [], ◌∷◌, ℕ, Bool, true, false, cond, ◌||◌, nat_eq}
use Rattle.std.proofs.lemmas.Bool.{cases_eq}
use Rattle.std.proofs.lemmas.Bool.Decides.{nat_tests}
use Rattle.kin_motion.specs.Numbers.{is_in, IsOnce, Lists, HasEntered}
use Rattle.kin_list.specs.declared.mark.Mark.{Mark}
use Rattle.kin_list.specs.declared.mark.Mark.TheVariants.{Rest, Leaves}
use Rattle.kin_list.specs.Listing.{Listing, HasMarked, without}
use Rattle.kin_list.specs.Keeping.{HasMembers}
use Rattle.kin_list.proofs.ListLaws.{is_in-without, not_in-without}

pub without_once : (who : ℕ) (xs : List ℕ) → IsOnce xs → IsOnce (without who xs)
without_once who [] once = tt
without_once who (x ∷ xs) once = at (nat_eq who x) refl (without_once who xs once.1)
  where
    at : (b : Bool) → nat_eq who x ≡ b → IsOnce (without who xs) → IsOnce (cond b (without who xs) (x ∷ without who xs))
    at true e rest = rest
    at false e rest = let apart : x ≢ who = grind (arith, nat_tests, e) in (is_in-without x who xs apart ∙ once.0, rest)

lists_without : (who : ℕ) (xs before after : List ℕ) → Lists xs before → HasEntered who after before → Lists (without who xs) after
lists_without who xs before after lists left = record { once = without_once who xs lists.once; same = λ i. at i (cases_eq i who) }
  where
    at : (i : ℕ) → (i ≡ who) ⊎ (i ≢ who) → is_in i (without who xs) ≡ is_in i after
    at i (inl e) = ap (λ j. is_in j (without who xs)) e ∙ not_in-without who xs ∙ sym (ap (λ j. is_in j after) e ∙ left.absent)
    at i (inr apart) =
        let other : nat_eq i who ≡ false = grind (arith, nat_tests, apart) in
        is_in-without i who xs apart ∙ lists.same i ∙ sym (left.lists.same i) ∙ ap (λ b. b || is_in i after) other

pub list_left : (who : ℕ) (k new : Listing) (before after : List ℕ) → k.mark ≡ Rest → new ≡ record k { mark = Leaves who } → HasMembers k before → HasEntered who after before → HasMembers new after
list_left who k new before after rest marked has left =
    let lists : Lists k.items before = subst (λ (mark : Mark). HasMarked mark k.items before) rest has in
    subst (λ (l : Listing). HasMembers l after) (sym marked) (lists_without who k.items before after lists left)
