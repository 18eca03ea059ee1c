use Rattle.std.proofs.Common.{◌≡◌, ◌≢◌, sym, ap, ◌∙◌, subst, List, Result}
use Rattle.std.specs.Prelude.{OnOk}
use Rattle.std.specs.Result.{IsErr}
use Rattle.std.proofs.lemmas.Result.{IfOk-from_err}
use Rattle.kin_motion.specs.Edits.{Edit, all_edited, AreFitting}
use Rattle.kin_motion.specs.Kinetics.{ListsFailing}
use Rattle.kin_overlay.specs.declared.half.Half.TheVariants.{A}
use Rattle.kin_overlay.specs.declared.stage.Stage.TheVariants.{Broken}
use Rattle.kin_overlay.specs.Fingers.{AreLess}
use Rattle.kin_overlay.specs.Overlays.{Merge, names_gone, told}
use Rattle.kin_env.proofs.Mending.{edited_twice, whole, a_fit, a_less, whole_then, b_fit, b_less, ready, apart, mended, mended_now, mended_leads, mended_facts}
use Rattle.kin_env.proofs.Tellings.{told_at}
use Rattle.kin_env.proofs.node.mend.Goals as goal

-- the first edits are those of the merge before it traded its memory
traded : (es : List Edit) {m m' m1 : Merge} → m1 ≡ told A es m' → m' ≡ m → m1 ≡ told A es m
traded es {m} {m'} {m1} first same = first ∙ ap (λ (n : Merge). told A es n) same

pub edit-requires : goal.edit-requires
edit-requires g c =
    let t = c.requires.told in
    let is = sym c.trade_memory.ensures in
    record {
      whole = subst (λ (m : Merge). m.stage ≢ Broken) is (whole t);
      fit = subst (λ (m : Merge). AreFitting c.deref.result.now m.a) is (a_fit t c.deref.ensures.value);
      less = subst (λ (m : Merge). AreLess (all_edited c.deref.result.now m.a) m.b) is (a_less t c.deref.ensures.value);
    }

pub edit-requires-2 : goal.edit-requires-2
edit-requires-2 g c =
    let t = c.requires.told in
    let left = c.deref.ensures.value in
    let right = c.deref-2.ensures.value in
    let first = traded c.deref.result.now c.in_ok-edit.ensures.told c.trade_memory.ensures in
    record { whole = whole_then t left right first; fit = b_fit t left right first; less = b_less t left right first }

pub repair-requires : goal.repair-requires
repair-requires g c =
    let s = g.O.Signs.scene c.args.now.now in
    let is = edited_twice c.args.merge.now c.deref.ensures.value c.deref-2.ensures.value (traded c.deref.result.now c.in_ok-edit.ensures.told c.trade_memory.ensures) c.in_ok-edit-2.ensures.told c.swap_edits.ensures.merge in
    record {
      real = c.requires.real;
      ready = ready c.requires.told is c.requires.left_some c.requires.right_some;
      failing =
          subst (λ (m : Merge). ListsFailing m.facts (names_gone m) s c.deref-3.result.now) (sym c.swap_edits.ensures.merge)
          (told_at c.args.part s c.args.merge.now c.args.failed.now.items c.args.left.now c.args.right.now c.requires.told
          c.edit.new.self c.edit-2.new.self c.deref.result.now c.deref-2.result.now c.deref-3.result.now
          c.deref.ensures.value c.deref-2.ensures.value (traded c.deref.result.now c.in_ok-edit.ensures.told c.trade_memory.ensures) c.in_ok-edit-2.ensures.told (c.deref-3.ensures.value ∙ c.leave_out_spared.ensures));
    }

pub returns : goal.returns
returns g c =
    let t = c.requires.told in
    let is = edited_twice c.args.merge.now c.deref.ensures.value c.deref-2.ensures.value (traded c.deref.result.now c.in_ok-edit.ensures.told c.trade_memory.ensures) c.in_ok-edit-2.ensures.told c.swap_edits.ensures.merge in
    let k = c.in_ok-repair.ensures.repaired in
    let last = c.trade_memory-2.ensures ∙ c.swap_edits-2.ensures.merge in
    record {
      of = mended t is k.same last c.requires.real k.rest k.unedited k.settled;
      settled = mended_now t is k.same last k.settled;
      leads = mended_leads t is k.same last (c.reclaim.ensures ∙ c.swap_edits-2.ensures.edits) k.fit k.lead k.apart;
      failed = c.clear.ensures.items;
      changed = mended_facts t is k.same last k.delta;
      tests = λ keep_a keep_b. k.tests (apart t is keep_a keep_b);
    }

-- of an `Err` nothing is said
no_ok : {T E : Type 0} (P : Type 0) (r : Result T E) → IsErr r → OnOk r P
no_ok {T} {E} P r e = IfOk-from_err r (λ _. P) e

pub returns-in_err-edit : goal.returns-in_err-edit
returns-in_err-edit g c =
    let r = c.from_residual.result in
    let e = c.from_residual.ensures.0 in
    record { of = no_ok _ r e; settled = no_ok _ r e; leads = no_ok _ r e; failed = no_ok _ r e; changed = no_ok _ r e; tests = no_ok _ r e }

pub returns-in_err-edit-2 : goal.returns-in_err-edit-2
returns-in_err-edit-2 g c =
    let r = c.from_residual-in_err-edit-2.result in
    let e = c.from_residual-in_err-edit-2.ensures.0 in
    record { of = no_ok _ r e; settled = no_ok _ r e; leads = no_ok _ r e; failed = no_ok _ r e; changed = no_ok _ r e; tests = no_ok _ r e }

pub returns-in_err-repair : goal.returns-in_err-repair
returns-in_err-repair g c =
    let r = c.from_residual-in_err-repair.result in
    let e = c.from_residual-in_err-repair.ensures.0 in
    record { of = no_ok _ r e; settled = no_ok _ r e; leads = no_ok _ r e; failed = no_ok _ r e; changed = no_ok _ r e; tests = no_ok _ r e }
