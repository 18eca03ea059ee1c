-- Merges with told edits.
use Rattle.std.proofs.Common.{◌≡◌, ◌≢◌, refl, sym, ap, ◌∙◌, subst, List, [], ℕ, ◌<◌, ◌++◌, length}
use Rattle.kin_motion.specs.Chains.{IsUpperChain}
use Rattle.kin_motion.specs.Edits.{Edit, all_edited, dropped_by}
use Rattle.kin_motion.specs.Scene.{Scene}
use Rattle.kin_overlay.specs.declared.half.Half.{Half}
use Rattle.kin_overlay.specs.declared.half.Half.TheVariants.{A, B}
use Rattle.kin_overlay.specs.declared.stage.Stage.{Stage}
use Rattle.kin_overlay.specs.declared.stage.Stage.TheVariants.{Rest, Told, Broken}
use Rattle.kin_overlay.specs.Fingers.{AreLive}
use Rattle.kin_overlay.specs.Overlays.{Merge, told, told_chain, IsReady, IsSameMerge}
use Rattle.kin_cases.specs.Merges.{MayBeTold, IsToldOf, IsTelling, IsRun}

-- edits of a half leave the facts
pub told_facts : (h : Half) (es : List Edit) (m : Merge) → (told h es m).facts ≡ m.facts
told_facts A es m = refl
told_facts B es m = refl

not_broken : (t : Stage) → t ≡ Told → t ≢ Broken
not_broken t e f = let k : Told ≡ Broken = sym e ∙ f in absurd cc

pub rest_not_broken : (t : Stage) → t ≡ Rest → t ≢ Broken
rest_not_broken t e f = let k : Rest ≡ Broken = sym e ∙ f in absurd cc

-- edits of a half lead to a chain
pub told_of : (h : Half) (es : List Edit) (m new : Merge) (chain : List ℕ) → new ≡ told h es m → all_edited es (told_chain h m) ≡ chain → IsToldOf h m chain new
told_of A es m new chain is lead = record {
  whole = not_broken new.stage (ap (λ (n : Merge). n.stage) is);
  own = ap (λ (n : Merge). n.a) is ∙ lead;
  other = ap (λ (n : Merge). n.b) is;
}
told_of B es m new chain is lead = record {
  whole = not_broken new.stage (ap (λ (n : Merge). n.stage) is);
  own = ap (λ (n : Merge). n.b) is ∙ lead;
  other = ap (λ (n : Merge). n.a) is;
}

-- what edits of a half drop is gone
pub told_gone : (h : Half) (es : List Edit) (m new : Merge) (old gone : List ℕ) → new ≡ told h es m → told_chain h m ≡ old → m.gone ≡ gone → new.gone ≡ gone ++ dropped_by es old
told_gone A es m new old gone is chain before = ap (λ (n : Merge). n.gone) is ∙ ap (λ (xs : List ℕ). xs ++ dropped_by es m.a) before ∙ ap (λ (xs : List ℕ). gone ++ dropped_by es xs) chain
told_gone B es m new old gone is chain before = ap (λ (n : Merge). n.gone) is ∙ ap (λ (xs : List ℕ). xs ++ dropped_by es m.b) before ∙ ap (λ (xs : List ℕ). gone ++ dropped_by es xs) chain

-- after upper chains of live points are told the merge may settle
pub ready_told : (s : Scene) (a b xs ys gone : List ℕ) (m : Merge) → IsTelling a b gone m → MayBeTold s xs ys → a ≡ xs → b ≡ ys → IsReady m s
ready_told s a b xs ys gone m t may xs_is ys_is =
    let same_a : m.a ≡ xs = t.a_is ∙ xs_is in
    let same_b : m.b ≡ ys = t.b_is ∙ ys_is in
    record {
      whole = t.whole;
      a_some = subst (λ (zs : List ℕ). 0 < length zs) (sym same_a) may.of_a.some;
      b_some = subst (λ (zs : List ℕ). 0 < length zs) (sym same_b) may.of_b.some;
      a_live = subst (AreLive s.live) (sym same_a) may.of_a.live;
      b_live = subst (AreLive s.live) (sym same_b) may.of_b.live;
      a_chain = subst (λ (zs : List ℕ). IsUpperChain s zs zs) (sym same_a) may.of_a.is_chain;
      b_chain = subst (λ (zs : List ℕ). IsUpperChain s zs zs) (sym same_b) may.of_b.is_chain;
    }

-- after it has settled its told chains are these
pub run_after : (a b gone : List ℕ) (m p : Merge) → IsTelling a b gone m → IsSameMerge m p → p.stage ≡ Rest → p.gone ≡ [] → IsRun a b p
run_after a b gone m p t same rest none = record {
  rest = rest;
  a_is = same.a ∙ t.a_is;
  b_is = same.b ∙ t.b_is;
  none_gone = none;
}
