-- What a sorted list of points along a direction is, where at most one of them enters or leaves.
use Rattle.std.proofs.Common.{◌≡◌, ◌≢◌, refl, sym, ap, ◌∙◌, subst, arith, List, [], ◌∷◌, ℕ, zero, suc, Bool, true, false, not, cond, ◌||◌, length, ℤ}
use Rattle.std.specs.Prelude.{Contains, sum}
use Rattle.std.specs.List.{All}
use Rattle.std.proofs.lemmas.List.Sums.{sum_by-cons}
use Rattle.kin_algebra.proofs.Members.{contains_from_get}
use Rattle.kin_motion.specs.declared.fact.Placed.{Placed}
use Rattle.kin_motion.specs.Contents.{IsSettledList}
use Rattle.kin_motion.specs.Deltas.{Change}
use Rattle.kin_motion.specs.Forms.{names}
use Rattle.kin_motion.specs.Kinetics.{ListsFailing}
use Rattle.kin_motion.specs.Numbers.{is_in, IsIn, Lists}
use Rattle.kin_motion.specs.Orders as points
use Rattle.kin_motion.specs.Scene.{Scene}
use Rattle.kin_motion.specs.Sets.{ListsExactly}
use Rattle.kin_sorted.specs.declared.direction.Direction.{Direction}
use Rattle.kin_motion.specs.Directions.{along}
use Rattle.kin_sorted.specs.Marks as marks
use Rattle.kin_motion.specs.Ranks as ranked
use Rattle.kin_motion.specs.Ranks.{AreLive, IsOrder, IsOrderFact}
use Rattle.kin_sorted.specs.Sorting as sorting
use Rattle.kin_sorted.specs.Sorting.{Sorting, marks_for}
use Rattle.kin_sorted.proofs.ListLaws.{without_none, without_all-cons}
use Rattle.kin_list.specs.declared.mark.Mark.{Mark}
use Rattle.kin_list.specs.declared.mark.Mark.TheVariants.{Rest, Enters, Leaves, Broken}
use Rattle.kin_list.specs.FrugalLaws.{few_members}
use Rattle.kin_list.specs.Listing.{HasMarked, AreFewTests, lasting, marked, names_leaving, staying, without}
use Rattle.kin_list.specs.Sound.{IsMarkable, IsSound, single_of}
use Rattle.kin_list.proofs.ListLaws.{not_in-without}

-- the facts of neighbours along a direction are those of points
points_facts : (s : Scene) (slots : ℕ) (dx dy : ℤ) (xs : List ℕ) → ranked.neighbour_facts s (along slots dx dy) xs ≡ points.neighbour_facts s dx dy 0 xs
points_facts s slots dx dy [] = refl
points_facts s slots dx dy (i ∷ []) = refl
points_facts s slots dx dy (i ∷ j ∷ xs) =
    ap (λ (fs : List Placed). ranked.neighbour_fact s (along slots dx dy) i j ∷ fs) (points_facts s slots dx dy (j ∷ xs))

-- ---- marks
-- a list that may settle isn't broken
pub not_broken : (mark : Mark) (items set : List ℕ) → HasMarked mark items set → mark ≢ Broken
not_broken Rest items set h = λ e. absurd cc
not_broken (Enters i) items set h = λ e. absurd cc
not_broken (Leaves i) items set h = λ e. absurd cc
not_broken Broken items set h = absurd h

pub markable : (mark : Mark) (k : Sorting Direction) → mark ≢ Broken → IsSound mark k → IsMarkable mark k
markable Rest k n sound = sound
markable (Enters i) k n sound = sound
markable (Leaves i) k n sound = sound
markable Broken k n sound = absurd (n refl)

-- the list without one number
without_one : (i : ℕ) (items : List ℕ) → marks.without_all (i ∷ []) items ≡ without i items
without_one i items = without_all-cons i [] items ∙ ap (without i) (without_none items)

-- the members as they will be, those that stay, and those that have lasted
pub marked_same : (mark : Mark) (items : List ℕ) → marks.marked (marks_for (single_of mark)) items ≡ marked mark items
marked_same Rest items = without_none items
marked_same (Enters i) items = ap (λ (xs : List ℕ). i ∷ xs) (without_none items)
marked_same (Leaves i) items = without_one i items
marked_same Broken items = without_none items

pub staying_same : (mark : Mark) (items : List ℕ) → marks.without_all (marks_for (single_of mark)).leaving items ≡ staying mark items
staying_same Rest items = without_none items
staying_same (Enters i) items = without_none items
staying_same (Leaves i) items = without_one i items
staying_same Broken items = without_none items

pub lasting_same : (mark : Mark) (items : List ℕ) → marks.without_all (marks_for (single_of mark)).entering items ≡ lasting mark items
lasting_same Rest items = without_none items
lasting_same (Enters i) items = without_one i items
lasting_same (Leaves i) items = without_none items
lasting_same Broken items = without_none items

pub lists_marked : (mark : Mark) (items set : List ℕ) → HasMarked mark items set → Lists (marked mark items) set
lists_marked Rest items set h = h
lists_marked (Enters i) items set h = h
lists_marked (Leaves i) items set h = h
lists_marked Broken items set h = absurd h

-- ---- facts that are spared
numbers_along : (slots : ℕ) (dx dy : ℤ) (items : List ℕ) → marks.numbers_of (along slots dx dy) items ≡ items
numbers_along slots dx dy [] = refl
numbers_along slots dx dy (i ∷ items) = ap (λ (xs : List ℕ). i ∷ xs) (numbers_along slots dx dy items)

spared_same : (slots : ℕ) (dx dy : ℤ) (mark : Mark) (items : List ℕ) (p : Placed) → marks.names_gone (along slots dx dy) (marks_for (single_of mark)) items p ≡ names_leaving mark p
spared_same slots dx dy Rest items p = refl
spared_same slots dx dy (Enters i) items p = refl
spared_same slots dx dy (Leaves i) items p = ap (λ (b : Bool). marks.names_one (cond (not b) (i ∷ []) []) p.fact.form) gone ∙ or_none (names p.fact.form i)
  where
    gone : is_in i (marks.numbers_of (along slots dx dy) (marks.marked (marks.marks_of [] (i ∷ [])) items)) ≡ false
    gone = ap (is_in i) (numbers_along slots dx dy (marks.marked (marks.marks_of [] (i ∷ [])) items) ∙ marked_same (Leaves i) items) ∙ not_in-without i items

    or_none : (b : Bool) → b || false ≡ b
    or_none true = refl
    or_none false = refl
spared_same slots dx dy Broken items p = refl

pub failing_same : (s : Scene) (slots : ℕ) (dx dy : ℤ) (mark : Mark) (items : List ℕ) (facts failed : List Placed) → ListsFailing facts (names_leaving mark) s failed
    → ListsFailing facts (marks.names_gone (along slots dx dy) (marks_for (single_of mark)) items) s failed
failing_same s slots dx dy mark items facts failed failing = record {
  once = failing.once;
  each = λ p. (
    (λ c. let f = (failing.each p).0 c in (f.0, spared_same slots dx dy mark items p ∙ f.1, f.2)),
    (λ f. (failing.each p).1 (f.0, sym (spared_same slots dx dy mark items p) ∙ f.1, f.2)),
  );
}

-- ---- live numbers
one_live : (live : List ℕ) (i : ℕ) → IsIn i live → All (λ n. IsIn n live) (i ∷ [])
one_live live i h zero d l = h
one_live live i h (suc k) d l = absurd (omega arith)

pub marked_live : (s : Scene) (slots : ℕ) (dx dy : ℤ) (mark : Mark) (items : List ℕ) → HasMarked mark items s.live
    → AreLive s (along slots dx dy) (marks.marked (marks_for (single_of mark)) items)
marked_live s slots dx dy mark items ready i h = one_live s.live i (sym ((lists_marked mark items s.live ready).same i) ∙ sym (ap (is_in i) (marked_same mark items)) ∙ h)

-- ---- the order and its facts
module _ (s : Scene) (slots : ℕ) (dx dy : ℤ) (items : List ℕ) (same : (i : ℕ) → is_in i items ≡ is_in i s.live) where
  to_points : (xs : List ℕ) → IsOrder s (along slots dx dy) items xs → points.IsOrder s dx dy xs
  to_points xs o = record { all = record { once = o.all.once; same = λ i. o.all.same i ∙ same i }; chain = o.chain }

  from_points : (xs : List ℕ) → points.IsOrder s dx dy xs → IsOrder s (along slots dx dy) items xs
  from_points xs o = record { all = record { once = o.all.once; same = λ i. o.all.same i ∙ sym (same i) }; chain = o.chain }

  pub settled_along : (facts : List Placed) → IsOrder s (along slots dx dy) items items → ListsExactly facts (IsOrderFact s (along slots dx dy) items) → IsSettledList s dx dy items facts
  settled_along facts order exact = record {
    order = to_points items order;
    exact = record {
      once = exact.once;
      each = λ p. (
        (λ c.
            let f = (exact.each p).0 c in
            record { order = f.order; ordered = to_points f.order f.ordered; listed = subst (λ fs. Contains fs p) (points_facts s slots dx dy f.order) f.listed }),
        (λ f. (exact.each p).1 (record { order = f.order; ordered = from_points f.order f.ordered; listed = subst (λ fs. Contains fs p) (sym (points_facts s slots dx dy f.order)) f.listed })),
      );
    };
  }

-- ---- tests
no_halvings : (hs : List ℕ) → length hs ≡ 0 → sum hs ≡ 0
no_halvings [] e = refl
no_halvings (h ∷ hs) e = absurd (omega arith)

one_halving : (hs : List ℕ) → length hs ≡ 1 → (h : ℕ) × Contains hs h × (sum hs ≡ h)
one_halving [] e = absurd (omega arith)
one_halving (h ∷ []) e = (h, contains_from_get (h ∷ []) 0 h refl, let total = sum_by-cons (λ (x : ℕ). x) h [] in omega arith)
one_halving (h ∷ k ∷ hs) e = absurd (omega arith)

pub few_same : (mark : Mark) (old new : List ℕ) (out out' : Change) (before after : ℕ) → Lists new (marked mark old)
    → sorting.AreFewTests (length (marks_for (single_of mark)).entering) old new out out' before after → AreFewTests mark old new out out' before after
few_same Rest old new out out' before after lists few =
    let none = no_halvings few.halvings few.each in
    let bound = few.bound in
    record { halvings = 0; allowed = refl; bound = omega arith }
few_same (Enters i) old new out out' before after lists few =
    let one = one_halving few.halvings few.each in
    let most = few.allowed one.0 one.1 in
    let total = one.2 in
    let longer = few_members new (i ∷ old) lists in
    let bound = few.bound in
    record { halvings = one.0; allowed = omega arith; bound = omega arith }
few_same (Leaves i) old new out out' before after lists few =
    let none = no_halvings few.halvings few.each in
    let bound = few.bound in
    record { halvings = 0; allowed = refl; bound = omega arith }
few_same Broken old new out out' before after lists few =
    let none = no_halvings few.halvings few.each in
    let bound = few.bound in
    record { halvings = 0; allowed = refl; bound = omega arith }
