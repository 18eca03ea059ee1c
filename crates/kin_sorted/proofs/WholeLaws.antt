-- What a whole settle gives.
use Rattle.std.proofs.Common.{◌≡◌, refl, sym, ap, ap₂, ◌∙◌, subst, arith, List, [], ℕ, zero, suc, ◌+◌, ◌<◌, true, false, length, map, Some, None, Option}
use Rattle.std.specs.Prelude.{slice_get, replicate}
use Rattle.kin_algebra.specs.declared.sign.Sign.{Sign}
use Rattle.kin_motion.specs.declared.fact.Placed.{Placed}
use Rattle.kin_motion.specs.Deltas.{Change}
use Rattle.kin_motion.specs.Kinetics.{ListsFailing, HasChanged}
use Rattle.kin_motion.specs.Numbers.{is_in}
use Rattle.kin_motion.specs.Parts.{moved_by}
use Rattle.kin_motion.specs.Scene.{Scene}
use Rattle.kin_motion.specs.Sets.{ListsExactly}
use Rattle.kin_motion.proofs.SetLaws.{apart_from_once}
use Rattle.kin_sorted.specs.declared.link.Link.{Link}
use Rattle.kin_sorted.specs.Costs.{IsArranged}
use Rattle.kin_motion.specs.Rankings.{IsStrict, IsRanking}
use Rattle.kin_sorted.specs.Lineups.{IsRenewed}
use Rattle.kin_sorted.specs.Links.{link_for, facts_from}
use Rattle.kin_sorted.specs.Marks.{Marks, AreMarks, marked, names_gone}
use Rattle.kin_motion.specs.Ranks.{Ranks, IsOrder, IsOrderFact}
use Rattle.kin_sorted.specs.Repairs.{IsHeld}
use Rattle.kin_sorted.specs.Rows.{Row}
use Rattle.kin_sorted.specs.Sorting.{AreFewTests}
use Rattle.kin_sorted.specs.Telling.{IsToldIn, nothing_told}
use Rattle.kin_sorted.proofs.BoundLaws.{failed_dropped, few_tests}
use Rattle.kin_sorted.proofs.SettleLaws.{held_after, all_hold, exact_after}
use Rattle.kin_sorted.proofs.TellingLaws.{changed_in_part, few_in_part}

-- an order of a set is the order of its own members
pub own_order : (s : Scene) (r : Ranks) (set xs : List ℕ) → IsOrder s r set xs → IsOrder s r xs xs
own_order s r set xs order = record { all = record { once = order.all.once; same = λ i. refl }; chain = order.chain }

-- what holds once the order is arranged and its links are told
pub record IsWholeSettle (s : Scene) (r : Ranks) (many : ℕ) (old : List ℕ) (links after : List (Option Link)) (new : List ℕ) (signs : List Sign) (out out' : Change)
    (steps steps' : ℕ) : Type 0 where
  pub held : IsHeld r after new signs [] []
  pub order : IsOrder s r new new
  pub exact : ListsExactly (facts_from r 0 after) (IsOrderFact s r new)
  pub tests : HasChanged (facts_from r 0 links) (facts_from r 0 after) out out' → AreFewTests many old new out out' steps steps'

module _ (s : Scene) (r : Ranks) (law : IsRanking r) (laws : IsStrict s r) (m : Marks) (row : Row) (links after : List (Option Link)) (new : List ℕ) (signs signs' : List Sign)
    (touched swaps : List ℕ) (failed : List Placed) (steps steps' : ℕ) (out out' : Change)
    (marks : AreMarks m row.room row.items)
    (held : IsHeld r links row.items signs [] []) (failing : ListsFailing (facts_from r 0 links) (names_gone r m row.items) s failed)
    (arranged : IsArranged s r m links row.items new signs' touched swaps (length failed) steps steps')
    (same : length after ≡ length links) (fits : length links ≡ length signs')
    (renewed : (i : ℕ) → i < length links → is_in i touched ≡ true → slice_get after i ≡ Some (link_for new signs' i))
    (others : (i : ℕ) → is_in i touched ≡ false → slice_get after i ≡ slice_get links i) where
  whole_held : IsHeld r after new signs' [] []
  whole_held = held_after s r new signs' touched (apart_from_once new arranged.order.all.once) links after same fits arranged.known renewed others

  whole_tests : HasChanged (facts_from r 0 links) (facts_from r 0 after) out out' → AreFewTests (length m.entering) row.items new out out' steps steps'
  whole_tests changed = few_tests r law links after row.items new signs signs' held whole_held out out' changed m row.room marks arranged.order.all.same (length failed)
      (length swaps) steps steps' arranged.moved
      (failed_dropped r law links after row.items new signs signs' held whole_held out out' changed s (names_gone r m row.items) failed failing
      (all_hold s r new signs' touched (apart_from_once new arranged.order.all.once) links after same fits arranged.known renewed others))
      arranged.cost

  pub whole_settle : IsWholeSettle s r (length m.entering) row.items links after new signs' out out' steps steps'
  whole_settle = record {
    held = whole_held;
    order = own_order s r (marked m row.items) new arranged.order;
    exact = exact_after s r new signs' touched (apart_from_once new arranged.order.all.once) links after same fits arranged.known renewed others law laws arranged.live
        (own_order s r (marked m row.items) new arranged.order);
    tests = whole_tests;
  }

-- a row that is arranged, and whose links are reported, is settled
pub renewed : (s : Scene) (r : Ranks) → IsRanking r → IsStrict s r → (m : Marks) (part : ℕ) (old mid new : Row) (touched seen swaps : List ℕ) (failed : List Placed)
    (before after : ℕ) (out out' : Change) → AreMarks m old.room old.items → IsHeld r old.links old.items old.signs [] []
    → ListsFailing (facts_from r 0 old.links) (names_gone r m old.items) s failed
    → ((links : List (Option Link)) → IsHeld r links old.items old.signs [] [] → ListsFailing (facts_from r 0 links) (names_gone r m old.items) s failed
    → IsArranged s r m links old.items mid.items mid.signs touched swaps (length failed) before after)
    → mid.links ≡ old.links → (new.items ≡ mid.items) × (new.room ≡ mid.room) × (new.signs ≡ mid.signs) → length new.links ≡ length mid.links
    → length mid.links ≡ length mid.signs → seen ≡ touched
    → ((i : ℕ) → i < length mid.links → is_in i seen ≡ true → slice_get new.links i ≡ Some (link_for mid.items mid.signs i))
    → ((i : ℕ) → is_in i seen ≡ false → slice_get new.links i ≡ slice_get mid.links i)
    → IsToldIn part (facts_from r 0 mid.links) (facts_from r 0 new.links) out out'
    → IsRenewed s r m part old new swaps out out' before after
renewed s r law laws m part old mid new touched seen swaps failed before after out out' marks held failing arranges kept same long fits deref written others told =
    let failing' = subst (λ (ls : List (Option Link)). ListsFailing (facts_from r 0 ls) (names_gone r m old.items) s failed) (sym kept) failing in
    let held' = subst (λ (ls : List (Option Link)). IsHeld r ls old.items old.signs [] []) (sym kept) held in
    let arranged = subst (λ (ts : List Sign). IsArranged s r m mid.links old.items new.items ts touched swaps (length failed) before after) (sym same.2)
    (subst (λ (xs : List ℕ). IsArranged s r m mid.links old.items xs mid.signs touched swaps (length failed) before after) (sym same.0)
    (arranges mid.links held' failing')) in
    let whole = whole_settle s r law laws m old mid.links new.links new.items old.signs new.signs touched swaps failed before after nothing_told told.change marks held' failing'
    arranged long (fits ∙ sym (ap length same.2))
    (λ i l h. written i l (ap (is_in i) deref ∙ h) ∙ ap₂ (λ xs ts. Some (link_for xs ts i)) (sym same.0) (sym same.2))
    (λ i h. others i (ap (is_in i) deref ∙ h)) in
    record {
      held = whole.held;
      live = arranged.live;
      members = arranged.order.all;
      order = whole.order;
      exact = whole.exact;
      delta = subst (λ (ls : List (Option Link)). HasChanged (map (moved_by part) (facts_from r 0 ls)) (map (moved_by part) (facts_from r 0 new.links)) out out') kept
          (changed_in_part part _ _ out out' told);
      exchanges = arranged.exchanges;
      moved = arranged.moved;
      tests = few_in_part part (length m.entering) old.items new.items _ _ out out' before after told (whole.tests told.changed);
    }

-- an empty list
no_links : (n i : ℕ) → i < length {A = Option Link} (replicate n None) → slice_get {X = Option Link} (replicate n None) i ≡ Some None
no_links zero i l = absurd (omega arith)
no_links (suc n) zero l = refl
no_links (suc n) (suc i) l = no_links n i (omega arith)

pub empty_held : (r : Ranks) (n : ℕ) (links : List (Option Link)) (signs : List Sign) → links ≡ replicate n None → IsHeld r links [] signs [] []
empty_held r n links signs e = subst (λ ls. IsHeld r ls [] signs [] []) (sym e) (record {
  ahead = λ p i j a b out. absurd cc;
  kept = λ p i bound a out away. absurd cc;
  gone = λ i bound out away. no_links n i bound;
})

no_facts : (r : Ranks) (m n : ℕ) → facts_from r m (replicate n None) ≡ []
no_facts r m zero = refl
no_facts r m (suc n) = no_facts r (m + 1) n

pub empty_facts : (r : Ranks) (n : ℕ) (links : List (Option Link)) → links ≡ replicate n None → facts_from r 0 links ≡ []
empty_facts r n links e = ap (facts_from r 0) e ∙ no_facts r 0 n
