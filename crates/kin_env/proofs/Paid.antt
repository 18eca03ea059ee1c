-- What a repair asks is paid by its reports, where the chains keep their order.
use Rattle.std.proofs.Common.{◌≡◌, ◌≢◌, ◌⊎◌, inl, inr, refl, sym, ap, subst, arith, List, [], ◌∷◌, ◌++◌, ℕ, ◌+◌, ◌*◌, ◌^◌, ◌<◌, ◌≤◌, length, Bool, true, false, nat_lt}
use Rattle.std.specs.Prelude.{Option, Some, None}
use Rattle.std.proofs.lemmas.Bool.{cases_eq}
use Rattle.std.proofs.lemmas.Bool.Decides.{nat_tests}
use Rattle.std.proofs.lemmas.List.{length-append}
use Rattle.kin_motion.specs.declared.fact.Placed.{Placed}
use Rattle.kin_motion.specs.Deltas.{Change}
use Rattle.kin_motion.specs.Edits.{Edit, dropped_by, put_by}
use Rattle.kin_motion.specs.Kinetics.{HasGained, HasChanged}
use Rattle.kin_motion.specs.Numbers.{is_in, IsIn}
use Rattle.kin_overlay.specs.declared.half.Half.TheVariants.{A, B}
use Rattle.kin_overlay.specs.Diffs.{KeepOrder, ArePutApart}
use Rattle.kin_overlay.specs.Overlays.{Merge, ArePutsApart, IsUnedited, told}
use Rattle.kin_tourney.specs.declared.doubt.Doubt.TheVariants.{Clear}
use Rattle.kin_tourney.specs.Standings.{doubt_in}
use Rattle.kin_env.specs.declared.node.Node.{Node}
use Rattle.kin_env.specs.declared.branches.Branches.{Branches}
use Rattle.kin_env.specs.Nodes.{merge_at, passed_at, chain_at, edits_at}
use Rattle.kin_env.specs.Joints.{Leads, IsJoint, HalvesKeepOrder, ArePaid}
use Rattle.kin_env.specs.Walks.{IsRenewed, NodesKeepOrder}
use Rattle.kin_env.proofs.Reports.{IsReporting}
use Rattle.kin_env.proofs.Works.{joint_now}

-- ---- what is paid
-- a list of reports never gets shorter
grown : (before after : List Placed) (which : Placed → Type 0) → HasGained before after which → length before ≤ length after
grown before after which g = omega (arith, ap length g.joined, length-append before g.more)

-- where nothing is asked
pub nothing_asked : (old new : List Placed) (before after : Change) (n : ℕ) → HasChanged old new before after → ArePaid before after n n
nothing_asked old new before after n h =
    let born = grown before.born after.born _ h.born in
    let dropped = grown before.dropped after.dropped _ h.dropped in
    omega (arith, born, dropped)

-- where five signs are asked for each fact that is born
pub paid_by_born : (old new : List Placed) (before after : Change) (asked now : ℕ) → HasChanged old new before after → now + 5 * length before.born ≤ asked + 5 * length after.born → ArePaid before after asked now
paid_by_born old new before after asked now h few =
    let dropped = grown before.dropped after.dropped _ h.dropped in
    omega (arith, few, dropped)

-- first these and then those
paid_both : (before middle after : Change) (l m n : ℕ) → ArePaid before middle l m → ArePaid middle after m n → ArePaid before after l n
paid_both before middle after l m n p q = omega (arith, p, q)

-- ---- a merge that is given the edits of its halves
apart_after : (put dropped : List ℕ) (es : List Edit) (xs : List ℕ) → put ≡ [] → dropped ≡ [] → ArePutApart es xs → (x : ℕ) → IsIn x (put ++ put_by es) → is_in x (dropped ++ dropped_by es xs) ≡ false
apart_after [] [] es xs e f k = k
apart_after [] (d ∷ dropped) es xs e f k = absurd cc
apart_after (p ∷ put) dropped es xs e f k = absurd cc

-- its edits put no number that they drop
pub puts_apart : (m : Merge) → IsUnedited m → (ca cb : List ℕ) (ea eb : List Edit) → Leads ea m.a ca → Leads eb m.b cb → KeepOrder m.a ca → KeepOrder m.b cb → ArePutsApart (told B eb (told A ea m))
puts_apart m none ca cb ea eb left right k l = record {
  a = apart_after m.put_a m.drop_a ea m.a none.put_a none.drop_a (left.apart k);
  b = apart_after m.put_b m.drop_b eb m.b none.put_b none.drop_b (right.apart l);
}

-- ---- the chains of a repair
keeps_itself : (xs ys : List ℕ) → KeepOrder xs ys → KeepOrder xs xs
keeps_itself xs ys k = record { old_once = k.old_once; new_once = k.old_once; same = refl }

halves_kept : (v : ℕ) (o : Option Merge) (xs a b ca cb : List ℕ) → IsJoint v o xs a b → KeepOrder a ca → KeepOrder b cb → HalvesKeepOrder o ca cb
halves_kept v None xs a b ca cb of k l = tt
halves_kept v (Some m) xs a b ca cb of k l = (subst (λ (l : List ℕ). KeepOrder l ca) (sym of.a_is) k, subst (λ (l : List ℕ). KeepOrder l cb) (sym of.b_is) l)

-- one node more
module _ (start t x : Branches) (before middle after : Change) (v : ℕ) (some : 0 < v) (doubted : doubt_in t.doubts.items v ≢ Clear) (quiet : (u : ℕ) → 0 < u → edits_at start.nodes.items u ≡ [])
    (h : IsReporting start t before middle) (r : IsRenewed v t x middle after) (keep : NodesKeepOrder start.size start.nodes.items x.nodes.items) where
  -- the chains kept their order before
  kept : NodesKeepOrder start.size start.nodes.items t.nodes.items
  kept u big low = at (cases_eq u v)
    where
      at : (u ≡ v) ⊎ (u ≢ v) → KeepOrder (chain_at start.nodes.items u) (chain_at t.nodes.items u)
      at (inl e) = subst (λ (c : List ℕ). KeepOrder (chain_at start.nodes.items u) c) (sym (h.same_chain u (subst (λ w. doubt_in t.doubts.items w ≢ Clear) (sym e) doubted))) (keeps_itself _ (chain_at x.nodes.items u) (keep u big low))
      at (inr m) = subst (λ (c : List ℕ). KeepOrder (chain_at start.nodes.items u) c) (r.chain u m) (keep u big low)

  -- and so did those of the node's halves since its merge was settled
  halves : HalvesKeepOrder (merge_at t.nodes.items v) (chain_at t.nodes.items (2 * v)) (chain_at t.nodes.items (2 * v + 1))
  halves = subst (λ (o : Option Merge). HalvesKeepOrder o (chain_at t.nodes.items (2 * v)) (chain_at t.nodes.items (2 * v + 1))) (sym (h.same_merge v doubted)) (at (nat_lt v (2 ^ start.size)) refl)
    where
      at : (b : Bool) → nat_lt v (2 ^ start.size) ≡ b → HalvesKeepOrder (merge_at start.nodes.items v) (chain_at t.nodes.items (2 * v)) (chain_at t.nodes.items (2 * v + 1))
      at true e =
          let inner : v < 2 ^ start.size = grind (arith, nat_tests, e) in
          halves_kept v (merge_at start.nodes.items v) (passed_at start.nodes.items v) (chain_at start.nodes.items (2 * v)) (chain_at start.nodes.items (2 * v + 1)) _ _
          (joint_now start.size start.nodes.items h.joined v some inner (quiet (2 * v) (omega arith)) (quiet (2 * v + 1) (omega arith))) (kept (2 * v) (omega arith) (omega arith)) (kept (2 * v + 1) (omega arith) (omega arith))
      at false e = subst (λ (o : Option Merge). HalvesKeepOrder o (chain_at t.nodes.items (2 * v)) (chain_at t.nodes.items (2 * v + 1))) (sym (h.joined.leaves v (grind (arith, nat_tests, e)))) tt

  pub paid_on : (l m n : ℕ) → (NodesKeepOrder start.size start.nodes.items t.nodes.items → ArePaid before middle l m)
      → (HalvesKeepOrder (merge_at t.nodes.items v) (chain_at t.nodes.items (2 * v)) (chain_at t.nodes.items (2 * v + 1)) → ArePaid middle after m n) → ArePaid before after l n
  paid_on l m n so_far step = paid_both before middle after l m n (so_far kept) (step halves)

-- the same from lists of nodes with the same chains
pub orders_from : (size size' : ℕ) (ns ms ns' ms' : List Node) → size' ≡ size → ((v : ℕ) → chain_at ns' v ≡ chain_at ns v) → ((v : ℕ) → chain_at ms' v ≡ chain_at ms v) → NodesKeepOrder size ns ms → NodesKeepOrder size' ns' ms'
orders_from size size' ns ms ns' ms' same old new keep v some low =
    subst (λ (c : List ℕ). KeepOrder c (chain_at ms' v)) (sym (old v)) (subst (λ (c : List ℕ). KeepOrder (chain_at ns v) c) (sym (new v)) (keep v some (subst (λ n. v < 2 * 2 ^ n) same low)))
