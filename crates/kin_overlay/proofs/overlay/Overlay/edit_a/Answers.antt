use Rattle.std.proofs.Common.{◌≢◌, sym, subst, List, ℕ, ◌++◌}
use Rattle.kin_motion.specs.Edits.{all_edited, dropped_by, put_by}
use Rattle.kin_overlay.specs.declared.stage.Stage.TheVariants.{Broken}
use Rattle.kin_overlay.specs.Fingers.{AreLess}
use Rattle.kin_overlay.specs.Notes.{Noted}
use Rattle.kin_overlay.specs.Overlays.{Merge}
use Rattle.kin_overlay.specs.Sound.{IsWhole}
use Rattle.kin_overlay.proofs.PastLaws.{whole-edited-a}
use Rattle.kin_overlay.proofs.SoundLaws.{sound}
use Rattle.kin_overlay.proofs.overlay.Overlay.edit_a.Goals as goal

pub invariant_of-self-2 : goal.invariant_of-self-2
invariant_of-self-2 c =
    let o = c.self.inside in
    let usable = subst (λ (m : Merge). m.stage ≢ Broken) (sym c.self.view_is) c.requires.whole in
    let less = subst (λ (m : Merge). AreLess (all_edited c.args.edits.now m.a) m.b) (sym c.self.view_is) c.requires.less in
    let told = c.in_ok-edit_a.ensures in
    let kept = sound o.stage _ usable c.self.invariant in
    let es = c.args.edits.now in
    let whole = whole-edited-a o.part o.list o.notes.put_a o.notes.put_b o.notes.drop_a o.notes.drop_b o.notes.gone o.a.items o.b.items es kept.whole less in
    let edited = subst (λ (l : List ℕ). IsWhole o.part o.list (o.notes.put_a ++ put_by es) o.notes.put_b (o.notes.drop_a ++ dropped_by es o.a.items) o.notes.drop_b (o.notes.gone ++ dropped_by es o.a.items) l o.b.items) (sym told.chain) whole in
    record { whole = subst (λ (n : Noted). IsWhole o.part o.list n.put_a n.put_b n.drop_a n.drop_b n.gone c.edit_a.new.chain.items o.b.items) (sym told.noted) edited; read = kept.read; once = kept.once }
