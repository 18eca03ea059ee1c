-- The failed facts of a part are those that its list is told, and its report is that of its part.
use Rattle.std.proofs.Common.{◌≡◌, refl, sym, ap, ◌∙◌, subst, arith, List, [], ◌∷◌, ℕ, ◌+◌, Bool, true, false, cond, nat_eq, length, map, filter}
use Rattle.std.proofs.lemmas.Bool.{eqb-true}
use Rattle.std.proofs.lemmas.Bool.Decides.{nat_tests}
use Rattle.kin_motion.specs.declared.fact.Placed.{Placed}
use Rattle.kin_motion.specs.Kinetics.{ListsFailing}
use Rattle.kin_motion.specs.Parts.{moved_by}
use Rattle.kin_motion.specs.Scene.{Scene}
use Rattle.kin_motion.proofs.ClosestFactLaws.{part_of_order}
use Rattle.kin_motion.proofs.PartLaws.{moved_facts_fail}
use Rattle.kin_list.specs.declared.mark.Mark.{Mark}
use Rattle.kin_list.specs.declared.mark.Mark.TheVariants.{Rest, Enters, Leaves, Broken}
use Rattle.kin_list.specs.Listing.{Listing, IsSettledListing, names_leaving, staying, lasting}
use Rattle.kin_list.specs.Rows.{exchanged}
use Rattle.kin_wedge.specs.Parts.{in_part, is_of_part, AreAtNought, IsResettled}

-- a fact that was moved to part 0 and back
moved_back : (part : ℕ) (p : Placed) → p.part ≡ part → moved_by part (in_part 0 p) ≡ p
moved_back part p h = let e : part + 0 ≡ p.part = omega (arith, h) in λ t. record { part = e t; fact = p.fact }

moved_back_if : (part : ℕ) (p : Placed) (xs ys : List Placed) → map (moved_by part) (map (in_part 0) xs) ≡ ys → (b : Bool) → is_of_part part p ≡ b
    → map (moved_by part) (map (in_part 0) (cond (is_of_part part p) (p ∷ xs) xs)) ≡ cond (is_of_part part p) (p ∷ ys) ys
moved_back_if part p xs ys e true f =
    let same : p.part ≡ part = grind (arith, nat_tests, f) in
    ap (λ (b : Bool). map (moved_by part) (map (in_part 0) (cond b (p ∷ xs) xs))) f
    ∙ (λ t. moved_back part p same t ∷ e t)
    ∙ sym (ap (λ (b : Bool). cond b (p ∷ ys) ys) f)
moved_back_if part p xs ys e false f =
    ap (λ (b : Bool). map (moved_by part) (map (in_part 0) (cond b (p ∷ xs) xs))) f ∙ e ∙ sym (ap (λ (b : Bool). cond b (p ∷ ys) ys) f)

all_moved_back : (part : ℕ) (ps : List Placed) → map (moved_by part) (map (in_part 0) (filter (is_of_part part) ps)) ≡ filter (is_of_part part) ps
all_moved_back part [] = refl
all_moved_back part (p ∷ ps) = moved_back_if part p (filter (is_of_part part) ps) (filter (is_of_part part) ps) (all_moved_back part ps) (is_of_part part p) refl

-- which facts are spared is no matter of their part
spared_anywhere : (mark : Mark) (part : ℕ) (facts failed : List Placed) (s : Scene) → ListsFailing facts (λ p. names_leaving mark (moved_by part p)) s failed → ListsFailing facts (names_leaving mark) s failed
spared_anywhere Rest part facts failed s h = h
spared_anywhere (Enters i) part facts failed s h = h
spared_anywhere (Leaves i) part facts failed s h = h
spared_anywhere Broken part facts failed s h = h

pub failing_told : (part : ℕ) (mark : Mark) (facts failed picked : List Placed) (s : Scene) → picked ≡ map (in_part 0) (filter (is_of_part part) failed)
    → ListsFailing (map (moved_by part) facts) (names_leaving mark) s (filter (is_of_part part) failed) → ListsFailing facts (names_leaving mark) s picked
failing_told part mark facts failed picked s e h =
    subst (ListsFailing facts (names_leaving mark) s) (sym e)
    (spared_anywhere mark part facts (map (in_part 0) (filter (is_of_part part) failed)) s
    ((moved_facts_fail part facts (map (in_part 0) (filter (is_of_part part) failed)) (names_leaving mark) s).1
    (subst (ListsFailing (map (moved_by part) facts) (names_leaving mark) s) (sym (all_moved_back part failed)) h)))

-- the facts of a settled list are in part 0
pub nought_settled : (l : Listing) (s : Scene) → IsSettledListing l s → AreAtNought l.facts
nought_settled l s h = λ p c. part_of_order s l.dx l.dy 0 p ((h.exact.each p).0 c)

pub none_told : (facts : List Placed) → nat_eq (length facts) 0 ≡ true → facts ≡ []
none_told [] e = refl
none_told (p ∷ ps) e = absurd (let n : length (p ∷ ps) ≡ 0 = eqb-true (length (p ∷ ps)) 0 e in omega (arith, n))

-- a list that stands still is settled as it stands
pub stood_still : (s : Scene) (l m : Listing) → m ≡ record l { swaps = [] } → l.mark ≡ Rest → IsSettledListing m s → IsResettled s l m
stood_still s l m e r settled = record {
  rest = ap (λ (k : Listing). k.mark) e ∙ r;
  settled = settled;
  exchanges = subst (λ (k : Listing). exchanged k.swaps (staying l.mark l.items) ≡ lasting l.mark k.items) (sym e) (subst (λ (mark : Mark). staying mark l.items ≡ lasting mark l.items) (sym r) refl);
  same = (ap (λ (k : Listing). k.dx) e, ap (λ (k : Listing). k.dy) e, ap (λ (k : Listing). k.room) e);
}
