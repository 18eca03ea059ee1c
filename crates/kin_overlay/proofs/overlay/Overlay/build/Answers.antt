use Rattle.std.proofs.Common.{◌≡◌, sym, ap, ◌∙◌, subst, arith, List, [], ℕ, length, Result, rules, Contains}
use Rattle.std.specs.Prelude.{IfOk, IsOk, Ok, Err}
use Rattle.std.specs.Result.{IsErr}
use Rattle.std.proofs.lemmas.Result.{IfOk-from_err}
use Rattle.kin_algebra.proofs.Members.{contains_none}
use Rattle.kin_motion.specs.Contents.{IsSettledMerge}
use Rattle.kin_motion.specs.Deltas.{Change}
use Rattle.kin_motion.specs.Kinetics.{HasChanged}
use Rattle.kin_motion.proofs.RealLaws.{real_line_laws}
use Rattle.kin_chain.proofs.MergeFacts.{rising_once}
use Rattle.kin_overlay.specs.Remembered.{Remembered, facts_of, all_placed}
use Rattle.kin_overlay.specs.Reports.{IsTold}
use Rattle.kin_overlay.specs.Sound.{IsWhole}
use Rattle.kin_overlay.proofs.FactLaws.{merged-settled}
use Rattle.kin_overlay.proofs.PassLaws.{linked-none}
use Rattle.kin_overlay.proofs.PastLaws.{whole-new, whole-cleared}
use Rattle.kin_overlay.proofs.ReadLaws.{read-merged}
use Rattle.kin_overlay.proofs.SoundLaws.{all-born, told-all}
use Rattle.kin_overlay.proofs.overlay.Overlay.build.Goals as goal

pub merge-requires-clause-a_once : goal.merge-requires-clause-a_once
merge-requires-clause-a_once g c = let s = g.O.Signs.scene c.args.now.now in rising_once s (real_line_laws s c.requires.real) c.args.a.now c.requires.a_chain.rising

pub merge-requires-clause-b_once : goal.merge-requires-clause-b_once
merge-requires-clause-b_once g c = let s = g.O.Signs.scene c.args.now.now in rising_once s (real_line_laws s c.requires.real) c.args.b.now c.requires.b_chain.rising

pub merge-requires-clause-standing : goal.merge-requires-clause-standing
merge-requires-clause-standing g c = λ f there u. absurd (contains_none f (subst (λ (m : Remembered). Contains (facts_of m) f) c.new-none.ensures there))

pub merge-requires-clause-linked : goal.merge-requires-clause-linked
merge-requires-clause-linked g c = λ k. linked-none _ 0 (let none = ap (λ (m : Remembered). length m.records) c.new-none.ensures in omega (arith, none)) k (omega arith)

pub invariant_of-result : goal.invariant_of-result
invariant_of-result g c =
    let s = g.O.Signs.scene c.args.now.now in
    let a = c.args.a.now in
    let b = c.args.b.now in
    let m = c.merge.new.self in
    let merged = c.in_ok-merge.ensures.merged in
    let settled = merged-settled s c.requires.real _ _ _ c.args.part _ c.requires.a_some c.requires.b_some c.requires.less c.requires.a_chain c.requires.b_chain merged (c.in_ok-chain.ensures ∙ read-merged s a b m _ c.requires.a_some c.requires.b_some merged merged.left) in
    let once_a = rising_once s (real_line_laws s c.requires.real) a c.requires.a_chain.rising in
    let once_b = rising_once s (real_line_laws s c.requires.real) b c.requires.b_chain.rising in
    let whole = whole-new s c.args.part m a b c.requires.a_some c.requires.b_some once_a once_b c.requires.less settled.exact.once merged in
    let with_b = subst (λ (l : List ℕ). IsWhole c.args.part m [] [] [] [] [] a l) (sym c.in_ok-copied-2.ensures) whole in
    let with_both = subst (λ (l : List ℕ). IsWhole c.args.part m [] [] [] [] [] l c.in_ok-copied-2.field-0.items) (sym c.in_ok-copied.ensures) with_b in
    record {
      whole = whole-cleared c.args.part m _ _ _ _ _ _ _ (search rules) (search rules) (search rules) (search rules) (search rules) with_both;
      read = c.in_ok-chain.ensures;
      once = rising_once s (real_line_laws s c.requires.real) _ settled.is_chain.rising;
    }

pub returns : goal.returns
returns g c =
    let s = g.O.Signs.scene c.args.now.now in
    let a = c.args.a.now in
    let m = c.merge.new.self in
    let settled = merged-settled s c.requires.real _ _ _ c.args.part _ c.requires.a_some c.requires.b_some c.requires.less c.requires.a_chain c.requires.b_chain c.in_ok-merge.ensures.merged
    (c.in_ok-chain.ensures ∙ read-merged s a c.args.b.now m _ c.requires.a_some c.requires.b_some c.in_ok-merge.ensures.merged c.in_ok-merge.ensures.merged.left) in
    let done = all-born c.args.part m c.new-none.result c.out.inside.dropped.items c.out.inside.born.items c.tell_missing.new.told.items c.new-none.ensures settled.exact.once c.in_ok-tell_missing.ensures in
    record {
      a = search rules;
      b = search rules;
      part = search rules;
      rest = search rules;
      settled =
          subst (λ (l : List ℕ). IsSettledMerge s l c.in_ok-copied-2.field-0.items c.in_ok-chain.chain.items c.args.part (all_placed c.args.part (facts_of m))) (sym c.in_ok-copied.ensures)
          (subst (λ (l : List ℕ). IsSettledMerge s a l c.in_ok-chain.chain.items c.args.part (all_placed c.args.part (facts_of m))) (sym c.in_ok-copied-2.ensures) settled);
      edits = search rules;
      gone = search rules;
      unedited = search rules;
      born = subst (λ (d : Change). HasChanged [] (all_placed c.args.part (facts_of m)) d (record { dropped = c.out.inside.dropped.items; born = c.tell_missing.new.told.items })) c.out.view_is done;
      tests = λ ok.
          let told = told-all c.args.part (facts_of m) c.out.inside.born.items c.tell_missing.new.told.items (subst (λ (n : Remembered). IsTold c.args.part (facts_of n) (facts_of m) c.out.inside.born.items c.tell_missing.new.told.items) c.new-none.ensures c.in_ok-tell_missing.ensures) in
          let old : length c.args.out.now.born ≡ length c.out.inside.born.items = sym (ap (λ (d : Change). length d.born) c.out.view_is) in
          omega (arith, told, old, c.in_ok-merge.ensures.few);
    }

-- of an `Err` nothing is said
none_made : {T E : Type 0} (P : T → Type 0) (r : Result T E) → IsErr r → IfOk r P
none_made {T} {E} P r e = IfOk-from_err r P e

none_asked : {T E : Type 0} (P : Type 0) (r : Result T E) → IsErr r → IsOk r → P
none_asked P (Ok x) e ok = search rules
none_asked P (Err x) e ok = search rules

pub returns-in_err-list : goal.returns-in_err-list
returns-in_err-list g c =
    let r = c.from_residual.result in
    let e = c.from_residual.ensures.0 in
    record { a = none_made _ r e; b = none_made _ r e; part = none_made _ r e; rest = none_made _ r e; settled = none_made _ r e; edits = none_made _ r e; gone = none_made _ r e; unedited = none_made _ r e; born = none_made _ r e; tests = none_asked _ r e }

pub returns-in_err-merge : goal.returns-in_err-merge
returns-in_err-merge g c =
    let r = c.from_residual-in_err-merge.result in
    let e = c.from_residual-in_err-merge.ensures.0 in
    record { a = none_made _ r e; b = none_made _ r e; part = none_made _ r e; rest = none_made _ r e; settled = none_made _ r e; edits = none_made _ r e; gone = none_made _ r e; unedited = none_made _ r e; born = none_made _ r e; tests = none_asked _ r e }

pub returns-in_err-tell_missing : goal.returns-in_err-tell_missing
returns-in_err-tell_missing g c =
    let r = c.from_residual-in_err-tell_missing.result in
    let e = c.from_residual-in_err-tell_missing.ensures.0 in
    record { a = none_made _ r e; b = none_made _ r e; part = none_made _ r e; rest = none_made _ r e; settled = none_made _ r e; edits = none_made _ r e; gone = none_made _ r e; unedited = none_made _ r e; born = none_made _ r e; tests = none_asked _ r e }

pub returns-in_err-chain : goal.returns-in_err-chain
returns-in_err-chain g c =
    let r = c.from_residual-in_err-chain.result in
    let e = c.from_residual-in_err-chain.ensures.0 in
    record { a = none_made _ r e; b = none_made _ r e; part = none_made _ r e; rest = none_made _ r e; settled = none_made _ r e; edits = none_made _ r e; gone = none_made _ r e; unedited = none_made _ r e; born = none_made _ r e; tests = none_asked _ r e }

pub returns-in_err-copied : goal.returns-in_err-copied
returns-in_err-copied g c =
    let r = c.from_residual-in_err-copied.result in
    let e = c.from_residual-in_err-copied.ensures.0 in
    record { a = none_made _ r e; b = none_made _ r e; part = none_made _ r e; rest = none_made _ r e; settled = none_made _ r e; edits = none_made _ r e; gone = none_made _ r e; unedited = none_made _ r e; born = none_made _ r e; tests = none_asked _ r e }

pub returns-in_err-copied-2 : goal.returns-in_err-copied-2
returns-in_err-copied-2 g c =
    let r = c.from_residual-in_err-copied-2.result in
    let e = c.from_residual-in_err-copied-2.ensures.0 in
    record { a = none_made _ r e; b = none_made _ r e; part = none_made _ r e; rest = none_made _ r e; settled = none_made _ r e; edits = none_made _ r e; gone = none_made _ r e; unedited = none_made _ r e; born = none_made _ r e; tests = none_asked _ r e }
