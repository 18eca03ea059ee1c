-- Determination: where the facts of a settled merge hold and both told chains are upper chains, it is settled.
use Rattle.std.proofs.Common.{◌≡◌, subst, List, [], ◌∷◌, ◌++◌, ℕ, map}
use Rattle.std.specs.Prelude.{Contains, ◌↔◌}
use Rattle.std.proofs.lemmas.List.Elements.{All-contains}
use Rattle.std.proofs.lemmas.Bool.{or_right}
use Rattle.kin_motion.specs.declared.form.Form.{Form}
use Rattle.kin_motion.specs.declared.fact.Placed.{Placed}
use Rattle.kin_motion.specs.Numbers.{IsChain}
use Rattle.kin_motion.specs.Scene.{Scene, Holds, placed_at}
use Rattle.kin_motion.specs.Chains.{IsUpperChain}
use Rattle.kin_motion.specs.Contents.{IsSettledMerge}
use Rattle.kin_motion.specs.Merges.{Breakpoint, is_of, is_placed_before, IsBreakpointList, breakpoint_list, forms_of_merge, IsMergeFact}
use Rattle.kin_motion.specs.Cells.{merged_chain}
use Rattle.kin_motion.proofs.ChainLaws.{one_upper_chain}
use Rattle.kin_motion.proofs.RealLaws.{real_line_laws}
use Rattle.kin_motion.proofs.SetLaws.{contains_map, exactly_in_words}
use Rattle.kin_chain.specs.Merging.{AreTold, is_in_place, SeenHolds, IsMergeNow, MergeIsDetermined}
use Rattle.kin_chain.proofs.ChainsOfChains.{told_list}
use Rattle.kin_chain.proofs.MergeFacts.{facts_exact}
use Rattle.kin_chain.proofs.MergedChain.{merge_gives_chain}
use Rattle.kin_chain.proofs.MergeRight.{merge_is_right}

-- what is placed before is in place
placed_in_place : (s : Scene) (es : List Breakpoint) → IsChain (is_placed_before s) es → IsChain (is_in_place s) es
placed_in_place s [] c = tt
placed_in_place s (e ∷ []) c = tt
placed_in_place s (e ∷ f ∷ es) c = (or_right (is_of e.half f.half) (is_placed_before s e f) c.0, placed_in_place s (f ∷ es) c.1)

-- the told chains of a settled merge
told_of_settled : (s : Scene) (a b chain : List ℕ) (part : ℕ) (facts : List Placed) → IsSettledMerge s a b chain part facts → AreTold s a b a b
told_of_settled s a b chain part facts m = record { a_chain = m.a_chain; b_chain = m.b_chain; less = m.less }

pub merge_is_determined : MergeIsDetermined
merge_is_determined old now a b chain part facts real_old real m ua ub hold = record {
  a_some = m.a_some;
  b_some = m.b_some;
  less = m.less;
  a_chain = ua;
  b_chain = ub;
  is_chain = subst (λ xs. IsUpperChain now (a ++ b) xs) same_chain right.chain;
  exact = exactly_in_words facts (IsMergeFact old a b part) (IsMergeFact now a b part) same_facts m.exact;
}
  where
    told : AreTold old a b a b
    told = told_of_settled old a b chain part facts m

    list : IsBreakpointList old a b (breakpoint_list old a b)
    list = told_list old real_old a b a b told

    listed : (p : Placed) → Contains (map (placed_at old part) (forms_of_merge old a b (breakpoint_list old a b))) p ↔ IsMergeFact old a b part p
    listed = (facts_exact old real_old a b a b (breakpoint_list old a b) part told list).each

    holds : (f : Form) → Contains (forms_of_merge old a b (breakpoint_list old a b)) f → now.sign f ≡ old.sign f
    holds f c =
        All-contains (λ p. Holds now p.fact) facts (placed_at old part f) hold
        ((m.exact.each (placed_at old part f)).1 ((listed (placed_at old part f)).0 (contains_map (placed_at old part) (forms_of_merge old a b (breakpoint_list old a b)) f c)))

    kept : SeenHolds old now a b (breakpoint_list old a b)
    kept = record { interleaved = record { of_a = list.of_a; of_b = list.of_b }; in_place = placed_in_place old (breakpoint_list old a b) list.falling; signs = holds }

    right : IsMergeNow old now a b a b (breakpoint_list old a b)
    right = merge_is_right old now a b a b (breakpoint_list old a b) real (record { a_chain = ua; b_chain = ub; less = m.less }) kept

    same_chain : merged_chain old a b (breakpoint_list old a b) ≡ chain
    same_chain = one_upper_chain old (real_line_laws old real_old) (a ++ b) (merged_chain old a b (breakpoint_list old a b)) chain (merge_gives_chain old a b a b (breakpoint_list old a b) real_old told list) m.is_chain

    same_facts : (p : Placed) → IsMergeFact old a b part p ↔ IsMergeFact now a b part p
    same_facts p = (λ w. ((right.facts part).each p).0 ((listed p).1 w), λ w. (listed p).0 (((right.facts part).each p).1 w))
