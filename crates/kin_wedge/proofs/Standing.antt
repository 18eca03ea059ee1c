-- Lists that are told nothing have settled by standing still.
use Rattle.std.proofs.Common.{◌≡◌, ◌≢◌, ◌⊎◌, inl, inr, refl, sym, ap, ◌∙◌, subst, arith, List, [], ℕ, ◌+◌, ◌<◌, ◌≤◌, map, filter, set, length, Some}
use Rattle.std.specs.Prelude.{slice_get}
use Rattle.std.proofs.lemmas.Bool.{cases_eq, cases_lt}
use Rattle.std.proofs.lemmas.Option.{same_Some, slice_get_within}
use Rattle.kin_algebra.proofs.Places.{get_within, get-set_same, get-set_other}
use Rattle.kin_motion.specs.declared.fact.Placed.{Placed}
use Rattle.kin_motion.specs.Kinetics.{ListsFailing}
use Rattle.kin_motion.specs.Scene.{Scene, IsReal}
use Rattle.kin_list.specs.declared.mark.Mark.{Mark}
use Rattle.kin_list.specs.declared.mark.Mark.TheVariants.{Rest}
use Rattle.kin_list.specs.Listing.{Listing, IsReadyListing, IsSettledListing, names_leaving}
use Rattle.kin_wedge.specs.Parts.{in_part, is_of_part, told_to, facts_from, AreAtNought, AreQuiet, EachTo, IsResettled, StandsStill}
use Rattle.kin_wedge.specs.Seen.{rows_of}
use Rattle.kin_wedge.proofs.Parting.{AllAtNought, failing_of_part}
use Rattle.kin_wedge.proofs.Posted.{failing_told, stood_still}
use Rattle.kin_wedge.proofs.Stepwise.{AreMade}
use Rattle.kin_wedge.proofs.Unmoved.{rows_kept, facts_kept}

-- what has settled from the list as it stands has settled from what it was
resettled_from : (s : Scene) (l m k : Listing) → StandsStill l m → IsResettled s m k → IsResettled s l k
resettled_from s l m k st r =
    let t = subst (λ (x : Listing). IsResettled s x k) st.same r in
    record { rest = t.rest; settled = t.settled; exchanges = t.exchanges; same = t.same }

-- the first i lists are quiet
abbrev pub AreQuietTo : Mark → List (List Placed) → List Listing → ℕ → Type 0
AreQuietTo mark boxes lists i = (part : ℕ) (l : Listing) → part < i → slice_get lists part ≡ Some l → told_to boxes part ≡ [] → mark ≡ Rest → l.swaps ≡ []

pub quiet_more : (mark : Mark) (boxes : List (List Placed)) (lists : List Listing) (i : ℕ) (m : Listing) → i < length lists → AreQuietTo mark boxes lists i → (told_to boxes i ≡ [] → mark ≡ Rest → m.swaps ≡ []) → AreQuietTo mark boxes (set lists i m) (i + 1)
quiet_more mark boxes lists i m w a q part l h here = at (cases_eq part i)
  where
    at : (part ≡ i) ⊎ (part ≢ i) → told_to boxes part ≡ [] → mark ≡ Rest → l.swaps ≡ []
    at (inl s) untold rest =
        let same : m ≡ l = same_Some m l (sym (get-set_same lists i m w) ∙ ap (slice_get (set lists i m)) (sym s) ∙ here) in
        subst (λ (x : Listing). x.swaps ≡ []) same (q (ap (told_to boxes) (sym s) ∙ untold) rest)
    at (inr n) untold rest = a part l (omega (arith, h, n)) (sym (get-set_other lists i part m n) ∙ here) untold rest

module _ (first still : List Listing) (e : EachTo StandsStill first still) where
  -- what the list was
  before : (part : ℕ) (m : Listing) → slice_get still part ≡ Some m → (l : Listing) × (slice_get first part ≡ Some l) × StandsStill l m
  before part m h =
      let w = slice_get_within still part m h in
      let c = e.count in
      let l = get_within first part (omega (arith, c, w)) in
      (l.0, l.1, e.each part l.0 m l.1 h)

  pub still_quiet : (part : ℕ) (m : Listing) → slice_get still part ≡ Some m → m.swaps ≡ []
  still_quiet part m h = ap (λ (k : Listing). k.swaps) (before part m h).2.same

  -- lists that are still to settle are quiet
  pub quiet_all : (R : Listing → Listing → Type 0) (mark : Mark) (boxes : List (List Placed)) (now : List Listing) (i : ℕ) → AreMade R still now i → AreQuietTo mark boxes now i → AreQuiet mark boxes now
  quiet_all R mark boxes now i made a part l here untold rest = at (cases_lt part i)
    where
      at : (part < i) ⊎ (i ≤ part) → l.swaps ≡ []
      at (inl h) = a part l h here untold rest
      at (inr h) = still_quiet part l (sym (made.left part h) ∙ here)

  pub still_nought : AllAtNought first → AllAtNought still
  still_nought nought part m h = let l = before part m h in subst (λ (k : Listing). AreAtNought k.facts) (sym l.2.same) (nought part l.0 l.1)

  pub still_marked : (mark : Mark) → ((part : ℕ) (l : Listing) → slice_get first part ≡ Some l → l.mark ≡ mark) → (part : ℕ) (m : Listing) → slice_get still part ≡ Some m → m.mark ≡ mark
  still_marked mark marked part m h = let l = before part m h in ap (λ (k : Listing). k.mark) l.2.same ∙ marked part l.0 l.1

  pub still_ready : (s : Scene) → ((part : ℕ) (l : Listing) → slice_get first part ≡ Some l → IsReadyListing l s) → (part : ℕ) (m : Listing) → slice_get still part ≡ Some m → IsReadyListing m s
  still_ready s ready part m h = let l = before part m h in subst (λ (k : Listing). IsReadyListing k s) (sym l.2.same) (ready part l.0 l.1)

  pub still_rows : rows_of still ≡ rows_of first
  still_rows = rows_kept first still e.count (λ part l m f g. ap (λ (k : Listing). k.items) (e.each part l m f g).same)

  pub still_facts : facts_from 0 still ≡ facts_from 0 first
  still_facts = facts_kept 0 first still e.count (λ part l m f g. ap (λ (k : Listing). k.facts) (e.each part l m f g).same)

  pub all_resettled : (s : Scene) (now : List Listing) → EachTo (IsResettled s) still now → EachTo (IsResettled s) first now
  all_resettled s now r = record {
    count = r.count ∙ e.count;
    each = λ part l k f g.
        let w = slice_get_within first part l f in
        let c = e.count in
        let m = get_within still part (omega (arith, c, w)) in
        resettled_from s l m.0 k (e.each part l m.0 f m.1) (r.each part m.0 k m.1 g);
  }

  module _ (s : Scene) (mark : Mark) (failed : List Placed) (real : IsReal s) (nought : AllAtNought first) (marked : (part : ℕ) (l : Listing) → slice_get first part ≡ Some l → l.mark ≡ mark) (ready : (part : ℕ) (l : Listing) → slice_get first part ≡ Some l → IsReadyListing l s)
      (failing : ListsFailing (facts_from 0 first) (names_leaving mark) s failed) where
    -- a list is told the failed ones of its facts
    pub failing_in : (part : ℕ) (m : Listing) (told : List Placed) → slice_get still part ≡ Some m → told ≡ map (in_part 0) (filter (is_of_part part) failed) → ListsFailing m.facts (names_leaving m.mark) s told
    failing_in part m told h t =
        let f = subst (λ (k : Mark). ListsFailing (facts_from 0 still) (names_leaving k) s failed) (sym (still_marked mark marked part m h)) (subst (λ (fs : List Placed). ListsFailing fs (names_leaving mark) s failed) (sym still_facts) failing) in
        failing_told part m.mark m.facts failed told s t (failing_of_part still part m (names_leaving m.mark) s failed (still_nought nought) h f)

    -- one that is told nothing has settled
    pub settled_untold : mark ≡ Rest → (part : ℕ) (m : Listing) → slice_get still part ≡ Some m → map (in_part 0) (filter (is_of_part part) failed) ≡ [] → IsResettled s m m
    settled_untold rest part m h none =
        let l = before part m h in
        let at_rest = marked part l.0 l.1 ∙ rest in
        let nothing : ListsFailing m.facts (names_leaving m.mark) s [] = failing_in part m [] h (sym none) in
        let settled : IsSettledListing m s = l.2.settled at_rest s real (ready part l.0 l.1) (subst (λ (k : Listing). ListsFailing k.facts (names_leaving k.mark) s []) l.2.same nothing) in
        stood_still s m m (subst (λ (k : Listing). k ≡ record k { swaps = [] }) (sym l.2.same) refl) (still_marked mark marked part m h ∙ rest) settled
