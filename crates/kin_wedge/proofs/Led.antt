-- Where a mark leads, the facts that it doesn't spare are those that name no number that has left.
use Rattle.std.proofs.Common.{◌≡◌, ◌⊎◌, inl, inr, refl, sym, ◌∙◌, subst, List, ℕ, Bool, true, false}
use Rattle.std.specs.Prelude.{IsTrue}
use Rattle.kin_motion.specs.declared.fact.Placed.{Placed}
use Rattle.kin_motion.specs.Forms.{names}
use Rattle.kin_motion.specs.Numbers.{IsIn}
use Rattle.kin_motion.proofs.Members.{in_cases, in_head, in_tail}
use Rattle.kin_list.specs.declared.mark.Mark.{Mark}
use Rattle.kin_list.specs.declared.mark.Mark.TheVariants.{Rest, Enters, Leaves, Broken}
use Rattle.kin_list.specs.Keeping.{LeadsTo}
use Rattle.kin_list.specs.Listing.{names_leaving}

-- what isn't spared names no number that has left
pub unspared_stay : (mark : Mark) (before after : List ℕ) (p : Placed) → LeadsTo mark before after → names_leaving mark p ≡ false → (i : ℕ) → IsTrue (names p.fact.form i) → IsIn i before → IsIn i after
unspared_stay Rest before after p leads free i named there = subst (IsIn i) leads there
unspared_stay (Enters j) before after p leads free i named there = sym (leads.lists.same i) ∙ in_tail i j before there
unspared_stay (Leaves j) before after p leads free i named there = at (in_cases i j after (leads.lists.same i ∙ there))
  where
    at : (i ≡ j) ⊎ IsIn i after → IsIn i after
    at (inl e) = absurd (let clash : true ≡ false = sym (subst (λ n. IsTrue (names p.fact.form n)) e named) ∙ free in cc)
    at (inr k) = k
unspared_stay Broken before after p leads free i named there = absurd leads

-- and what names no number that has left isn't spared
pub staying_unspared : (mark : Mark) (before after : List ℕ) (p : Placed) → LeadsTo mark before after → ((i : ℕ) → IsTrue (names p.fact.form i) → IsIn i before → IsIn i after) → names_leaving mark p ≡ false
staying_unspared Rest before after p leads stays = refl
staying_unspared (Enters j) before after p leads stays = refl
staying_unspared (Leaves j) before after p leads stays = at (names p.fact.form j) refl
  where
    there : IsIn j before
    there = sym (leads.lists.same j) ∙ in_head j after

    at : (b : Bool) → names p.fact.form j ≡ b → b ≡ false
    at true e = absurd (let clash : true ≡ false = sym (stays j e there) ∙ leads.absent in cc)
    at false e = refl
staying_unspared Broken before after p leads stays = refl
