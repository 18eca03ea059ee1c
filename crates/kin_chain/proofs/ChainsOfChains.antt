-- The upper chain of two sets together, and the facts of their merge, are those of their two chains.
use Rattle.std.proofs.Common.{◌≡◌, sym, ap, ◌∙◌, subst, List, ◌++◌, ℕ, Bool, true, false, not}
use Rattle.std.specs.List.{list_any}
use Rattle.std.proofs.lemmas.Bool.{and_parts, not-true}
use Rattle.kin_algebra.proofs.Tests.{three_parts, three_from}
use Rattle.kin_algebra.proofs.Tests.{and_same}
use Rattle.kin_motion.specs.Numbers.{is_in}
use Rattle.kin_motion.specs.Scene.{Scene, IsReal}
use Rattle.kin_motion.specs.Chains.{is_double, is_above, is_under_segment, is_bare, IsUpperChain}
use Rattle.kin_motion.specs.Merges.{IsBreakpointList, breakpoint_list, IsMergeForm, IsMergeFact}
use Rattle.kin_motion.specs.Cells.{merged_chain}
use Rattle.kin_motion.proofs.AgreementLaws.{none_passes}
use Rattle.kin_motion.proofs.BreakpointLaws.{breakpoints_agree, one_breakpoint_list}
use Rattle.kin_motion.proofs.ChainLaws.{one_upper_chain, chain_within}
use Rattle.kin_motion.proofs.RealLaws.{real_line_laws, real_turn_laws}
use Rattle.kin_motion.proofs.SlopeLaws.{real_slope_laws}
use Rattle.kin_chain.specs.Merging.{AreTold, OneBreakpointList, ChainOfChains, FactsOfChains}
use Rattle.kin_chain.proofs.MergedChain.{merged_is_chain}
use Rattle.kin_chain.proofs.Stays.{none_in}

-- ---- smaller set
-- what no member of a set passes no member of a part of it passes
none_of_part : (test : ℕ → Bool) (set xs : List ℕ) → ((i : ℕ) → is_in i xs ≡ true → is_in i set ≡ true) → list_any test set ≡ false → list_any test xs ≡ false
none_of_part test set xs within none = none_in test xs (λ i h. none_passes test set i none (within i h))

module _ (s : Scene) where
  pub bare_in_part : (set xs : List ℕ) (p : ℕ) → ((i : ℕ) → is_in i xs ≡ true → is_in i set ≡ true) → is_bare s set p ≡ true → is_bare s xs p ≡ true
  bare_in_part set xs p within bare =
      let parts = three_parts (not (list_any (is_double s p) set)) (not (list_any (is_above s p) set)) (not (list_any (λ q. list_any (is_under_segment s p q) set) set)) bare in
      three_from (not (list_any (is_double s p) xs)) (not (list_any (is_above s p) xs)) (not (list_any (λ q. list_any (is_under_segment s p q) xs) xs))
      (ap not (none_of_part (is_double s p) set xs within (not-true _ parts.0)))
      (ap not (none_of_part (is_above s p) set xs within (not-true _ parts.1)))
      (ap not (none_in (λ q. list_any (is_under_segment s p q) xs) xs (λ q i. none_of_part (is_under_segment s p q) set xs within (none_passes (λ t. list_any (is_under_segment s p t) set) set q (not-true _ parts.2) (within q i)))))

  -- an upper chain is that of its own members
  pub chain_of_itself : (set xs : List ℕ) → IsUpperChain s set xs → IsUpperChain s xs xs
  chain_of_itself set xs u = record { members = λ p. and_same (is_in p xs) (is_bare s xs p) (λ h. bare_in_part set xs p (chain_within s set xs u) (and_parts (is_in p set) (is_bare s set p) (sym (u.members p) ∙ h)).1); rising = u.rising }

  -- the told chains are those of themselves
  pub told_of_chains : (left right a b : List ℕ) → AreTold s left right a b → AreTold s a b a b
  told_of_chains left right a b told = record {
    a_chain = chain_of_itself left a told.a_chain;
    b_chain = chain_of_itself right b told.b_chain;
    less = λ i j h k. told.less i j (chain_within s left a told.a_chain i h) (chain_within s right b told.b_chain j k);
  }

  module _ (real : IsReal s) where
    -- two told chains have a breakpoint list
    pub told_list : (left right a b : List ℕ) → AreTold s left right a b → IsBreakpointList s a b (breakpoint_list s a b)
    told_list left right a b told = breakpoints_agree s (real_slope_laws s real) (real_turn_laws s real) left right a b told.a_chain told.b_chain

    -- a merge of one pair of sets is that of another pair with the same chains
    same_merge : (left right left' right' a b : List ℕ) (part : ℕ) (p : _) → AreTold s left right a b → AreTold s left' right' a b → IsMergeFact s left right part p → IsMergeFact s left' right' part p
    same_merge left right left' right' a b part p told told' m = record { form = m.form; merge = form m.merge; fact = m.fact }
      where
        form : IsMergeForm s left right m.form → IsMergeForm s left' right' m.form
        form f =
            let ea : a ≡ f.a = one_upper_chain s (real_line_laws s real) left a f.a told.a_chain f.a_chain in
            let eb : b ≡ f.b = one_upper_chain s (real_line_laws s real) right b f.b told.b_chain f.b_chain in
            record {
              a = f.a;
              b = f.b;
              breakpoints = f.breakpoints;
              a_chain = subst (λ xs. IsUpperChain s left' xs) ea told'.a_chain;
              b_chain = subst (λ xs. IsUpperChain s right' xs) eb told'.b_chain;
              sorted = f.sorted;
              listed = f.listed;
            }

pub one_list : OneBreakpointList
one_list s left right a b real told =
    (told_list s real left right a b told, λ es l. one_breakpoint_list s (real_slope_laws s real) a b es (breakpoint_list s a b) told.a_chain.rising told.b_chain.rising l (told_list s real left right a b told))

pub facts_of_chains : FactsOfChains
facts_of_chains s left right a b part p real told = (
  same_merge s real a b left right a b part p (told_of_chains s left right a b told) told,
  same_merge s real left right a b a b part p told (told_of_chains s left right a b told),
)

-- the merged chain by computation
abbrev both : Scene → List ℕ → List ℕ → List ℕ
both s a b = merged_chain s a b (breakpoint_list s a b)

pub chain_of_chains : ChainOfChains
chain_of_chains s left right a b xs real told = (
  λ u. subst (λ ys. IsUpperChain s (left ++ right) ys) (one_upper_chain s (real_line_laws s real) (a ++ b) (both s a b) xs own u) whole,
  λ u. subst (λ ys. IsUpperChain s (a ++ b) ys) (one_upper_chain s (real_line_laws s real) (left ++ right) (both s a b) xs whole u) own,
)
  where
    list : IsBreakpointList s a b (breakpoint_list s a b)
    list = told_list s real left right a b told

    whole : IsUpperChain s (left ++ right) (both s a b)
    whole = merged_is_chain s real told list

    own : IsUpperChain s (a ++ b) (both s a b)
    own = merged_is_chain s real (told_of_chains s left right a b told) list
