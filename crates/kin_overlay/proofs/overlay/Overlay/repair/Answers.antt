use Rattle.std.proofs.Common.{refl, sym, ap, ◌∙◌, subst, List, ℕ, Result, rules}
use Rattle.std.specs.Prelude.{OnOk}
use Rattle.std.specs.Result.{IsErr}
use Rattle.std.proofs.lemmas.Result.{IfOk-from_err}
use Rattle.kin_algebra.proofs.Results.{on_err}
use Rattle.kin_motion.specs.Contents.{IsSettledMerge}
use Rattle.kin_motion.specs.Deltas.{Change}
use Rattle.kin_motion.specs.Numbers.{IsOnce}
use Rattle.kin_motion.proofs.RealLaws.{real_line_laws}
use Rattle.kin_chain.proofs.MergeFacts.{rising_once}
use Rattle.kin_overlay.specs.Fingers.{IsMerged}
use Rattle.kin_overlay.specs.Lists.{AreApart}
use Rattle.kin_overlay.specs.Overlays.{ArePutsApart}
use Rattle.kin_overlay.specs.Remembered.{facts_of, all_placed}
use Rattle.kin_overlay.specs.Repairing.{IsPaid}
use Rattle.kin_overlay.specs.Standings.{IsUnfailed}
use Rattle.kin_overlay.specs.Walks.{chain_read}
use Rattle.kin_overlay.proofs.FactLaws.{merged-settled, merged-same, changed}
use Rattle.kin_overlay.proofs.PastLaws.{whole-new, whole-cleared, known-past, given-past, failed-fail, reports-pay}
use Rattle.kin_overlay.proofs.AgainLaws.{alike_where}
use Rattle.kin_overlay.proofs.LinkedLaws.{linked-noted}
use Rattle.kin_overlay.proofs.ReadLaws.{read-merged, threaded}
use Rattle.kin_overlay.proofs.SoundLaws.{sound}
use Rattle.kin_overlay.proofs.StandingLaws.{still-stand}
use Rattle.kin_overlay.proofs.overlay.Overlay.repair.Given as given
use Rattle.kin_overlay.proofs.overlay.Overlay.repair.Goals as goal
use Rattle.kin_overlay.proofs.overlay.Overlay.repair.Goals.{In_ok-known, In_ok-copy}

-- the reports pay for what the repair asks
paid : (g : given.Over) (c : In_ok-known g) → ArePutsApart c.args.self.now → IsPaid (facts_of c.self.inside.list) (facts_of c.repair.new.self) c.args.steps.now c.repair.new.steps
paid g c apart =
    let o = c.self.inside in
    let ready = rw (sym c.self.view_is) at c.requires.ready in
    let w = (sound o.stage _ ready.whole c.self.invariant).whole in
    let are = rw (sym c.self.view_is) at apart in
    let listed = rw (sym c.self.view_is) at c.requires.failing in
    c.in_ok-known.ensures.tests w.past
    (known-past w.past _ _ o.notes.put_a o.notes.put_b o.notes.gone o.a.items o.b.items _ _ c.put_a.ensures c.put_b.ensures c.gone.ensures c.as_slice.ensures c.as_slice-2.ensures w.is_past
    (subst (λ (l : List ℕ). AreApart o.notes.put_a l) (sym w.a_dropped) are.a) (subst (λ (l : List ℕ). AreApart o.notes.put_b l) (sym w.b_dropped) are.b))
    (failed-fail (g.O.Signs.scene c.args.now.now) _ _ c.args.failed.now listed)

-- the new merge
merged : (g : given.Over) (c : In_ok-copy g) → IsMerged (g.O.Signs.scene c.args.now.now) c.self.inside.a.items c.self.inside.b.items c.copy.new.self
merged g c = merged-same _ _ _ _ _ _ _ c.as_slice.ensures c.as_slice-2.ensures (sym c.in_ok-copy.ensures) c.in_ok-known.ensures.merged

-- it is settled
done : (g : given.Over) (c : In_ok-copy g) → IsSettledMerge (g.O.Signs.scene c.args.now.now) c.self.inside.a.items c.self.inside.b.items c.renew.new.chain.items c.self.inside.part (all_placed c.self.inside.part (facts_of c.copy.new.self))
done g c =
    let s = g.O.Signs.scene c.args.now.now in
    let ready = rw (sym c.self.view_is) at c.requires.ready in
    let less = (sound c.self.inside.stage _ ready.whole c.self.invariant).whole.less in
    let m = merged g c in
    merged-settled s c.requires.real _ _ _ c.self.inside.part _ ready.a_some ready.b_some less ready.a_chain ready.b_chain m
    (c.in_ok-renew.ensures.read ∙ ap chain_read (sym c.in_ok-copy.ensures) ∙ read-merged s _ _ _ _ ready.a_some ready.b_some m m.left)

-- what it shares with the one before
pub renew-requires : goal.renew-requires
renew-requires g c =
    let s = g.O.Signs.scene c.args.now.now in
    let o = c.self.inside in
    let ready = rw (sym c.self.view_is) at c.requires.ready in
    let kept = sound o.stage _ ready.whole c.self.invariant in
    let p = kept.whole.is_past in
    let new = merged-same _ _ _ _ _ _ _ c.as_slice.ensures c.as_slice-2.ensures refl c.in_ok-known.ensures.merged in
    record {
      once = kept.once;
      read = (o.list, kept.read, alike_where o.list c.repair.new.self c.with_ends-same.result c.between-shared.result p.merged.left (threaded kept.whole.past.scene _ _ o.list _ p.a_some p.b_some p.merged p.merged.left) new.left (threaded s _ _ c.repair.new.self _ ready.a_some ready.b_some new new.left) c.between-shared.ensures.one c.with_ends-same.ensures.front c.with_ends-same.ensures.back c.with_ends-same.ensures.left c.with_ends-same.ensures.right);
    }

pub repair-requires-clause-a_once : goal.repair-requires-clause-a_once
repair-requires-clause-a_once g c =
    let s = g.O.Signs.scene c.args.now.now in
    let chain = rw (sym c.self.view_is) at c.requires.ready.a_chain in
    subst IsOnce (sym c.as_slice.ensures) (rising_once s (real_line_laws s c.requires.real) c.self.inside.a.items chain.rising)

pub repair-requires-clause-b_once : goal.repair-requires-clause-b_once
repair-requires-clause-b_once g c =
    let s = g.O.Signs.scene c.args.now.now in
    let chain = rw (sym c.self.view_is) at c.requires.ready.b_chain in
    subst IsOnce (sym c.as_slice-2.ensures) (rising_once s (real_line_laws s c.requires.real) c.self.inside.b.items chain.rising)

pub repair-requires-clause-standing : goal.repair-requires-clause-standing
repair-requires-clause-standing g c = λ f there u.
    let s = g.O.Signs.scene c.args.now.now in
    let o = c.self.inside in
    let listed = rw (sym c.self.view_is) at c.requires.failing in
    still-stand s o.part o.list c.args.failed.now o.notes.gone listed f there (subst (λ (l : List ℕ). IsUnfailed c.args.failed.now l f) c.gone.ensures u)

pub repair-requires-clause-linked : goal.repair-requires-clause-linked
repair-requires-clause-linked g c =
    let o = c.self.inside in
    let ready = rw (sym c.self.view_is) at c.requires.ready in
    let p = (sound o.stage _ ready.whole c.self.invariant).whole.is_past in
    linked-noted _ _ _ _ p.merged.noted p.merged.in_place

pub repair-requires-clause-past : goal.repair-requires-clause-past
repair-requires-clause-past g c =
    let o = c.self.inside in
    let ready = rw (sym c.self.view_is) at c.requires.ready in
    let w = (sound o.stage _ ready.whole c.self.invariant).whole in
    (w.past, given-past w.past _ o.notes.put_a o.notes.put_b o.notes.gone o.a.items o.b.items _ _ _ _ _ c.put_a.ensures c.put_b.ensures c.gone.ensures c.as_slice.ensures c.as_slice-2.ensures w.is_past)

pub invariant_of-self-2 : goal.invariant_of-self-2
invariant_of-self-2 g c =
    let s = g.O.Signs.scene c.args.now.now in
    let o = c.self.inside in
    let here = (goal.at.invariant_of-self-2 g c).In_ok-copy in
    let settled = done g here in
    let once_a = rising_once s (real_line_laws s c.requires.real) o.a.items settled.a_chain.rising in
    let once_b = rising_once s (real_line_laws s c.requires.real) o.b.items settled.b_chain.rising in
    let whole = whole-new s o.part c.copy.new.self o.a.items o.b.items settled.a_some settled.b_some once_a once_b settled.less settled.exact.once (merged g here) in
    record {
      whole = whole-cleared o.part c.copy.new.self _ _ _ _ _ o.a.items o.b.items c.clear.ensures.put_a c.clear.ensures.put_b c.clear.ensures.drop_a c.clear.ensures.drop_b c.clear.ensures.gone whole;
      read = c.in_ok-renew.ensures.read ∙ ap chain_read (sym c.in_ok-copy.ensures);
      once = rising_once s (real_line_laws s c.requires.real) _ settled.is_chain.rising;
    }

pub returns-clause-repaired : goal.returns-clause-repaired
returns-clause-repaired g c =
    let o = c.self.inside in
    let m = c.copy.new.self in
    let ready = rw (sym c.self.view_is) at c.requires.ready in
    let kept = (sound o.stage _ ready.whole c.self.invariant).whole in
    let settled = done g (goal.at.returns-clause-repaired g c).In_ok-copy in
    let before : Change = record { dropped = c.out.inside.dropped.items; born = c.out.inside.born.items } in
    let after : Change = record { dropped = c.tell_missing.new.told.items; born = c.tell_missing-2.new.told.items } in
    let dropped = rw (sym c.in_ok-copy.ensures) at c.in_ok-tell_missing.ensures in
    let born = rw (sym c.in_ok-copy.ensures) at c.in_ok-tell_missing-2.ensures in
    let change = changed o.part o.list m before after kept.distinct settled.exact.once dropped born in
    record {
      rest = search rules;
      settled = settled;
      delta = rw (sym c.self.view_is, sym c.out.view_is) change;
      lead = search rules;
      fit = search rules;
      apart = search rules;
      same = search rules;
      gone = search rules;
      unedited = record { put_a = search rules; put_b = search rules; drop_a = search rules; drop_b = search rules };
      tests = λ apart. rw (sym c.out.view_is) (reports-pay o.part o.list c.repair.new.self c.args.steps.now c.repair.new.steps before after c.in_ok-tell_missing.ensures c.in_ok-tell_missing-2.ensures (paid g (goal.at.returns-clause-repaired g c).In_ok-known apart));
    }

-- of an `Err` nothing is said but that the merge is broken
no_ok : {T E : Type 0} (P : Type 0) (r : Result T E) → IsErr r → OnOk r P
no_ok {T} {E} P r e = IfOk-from_err r (λ _. P) e

pub returns-in_err-known : goal.returns-in_err-known
returns-in_err-known g c =
    let r = c.from_residual.result in
    let e = c.from_residual.ensures.0 in
    record { repaired = no_ok _ r e; broken = on_err r refl }

pub returns-in_err-tell_missing : goal.returns-in_err-tell_missing
returns-in_err-tell_missing g c =
    let r = c.from_residual-in_err-tell_missing.result in
    let e = c.from_residual-in_err-tell_missing.ensures.0 in
    record { repaired = no_ok _ r e; broken = on_err r refl }

pub returns-in_err-tell_missing-2 : goal.returns-in_err-tell_missing-2
returns-in_err-tell_missing-2 g c =
    let r = c.from_residual-in_err-tell_missing-2.result in
    let e = c.from_residual-in_err-tell_missing-2.ensures.0 in
    record { repaired = no_ok _ r e; broken = on_err r refl }

pub returns-in_err-renew : goal.returns-in_err-renew
returns-in_err-renew g c =
    let r = c.from_residual-in_err-renew.result in
    let e = c.from_residual-in_err-renew.ensures.0 in
    record { repaired = no_ok _ r e; broken = on_err r refl }

pub returns-in_err-copy : goal.returns-in_err-copy
returns-in_err-copy g c =
    let r = c.from_residual-in_err-copy.result in
    let e = c.from_residual-in_err-copy.ensures.0 in
    record { repaired = no_ok _ r e; broken = on_err r refl }
