use Rattle.std.proofs.Common.{◌≡◌, sym, ap, ◌∙◌, subst, arith, ℕ, ◌≤◌, length, Vec, Global}
use Rattle.std.specs.Prelude.{vec_len}
use Rattle.kin_motion.specs.declared.fact.Placed.{Placed}
use Rattle.kin_motion.specs.Deltas.{Change}
use Rattle.kin_motion.specs.Kinetics.{HasChanged}
use Rattle.kin_motion.proofs.Gains.{gained_behind, mapped_report}
use Rattle.kin_env.specs.Trees.{Envelope}
use Rattle.kin_hull.specs.SideLaws.{one_outward}
use Rattle.kin_hull.specs.Sides.{outward}
use Rattle.kin_hull.proofs.Parts.{facts_low}
use Rattle.kin_hull.proofs.mail.Mail.settle.Goals as goal

-- the length of a list's items
so_many : (n : ℕ) (v : Vec Placed Global) → n ≡ vec_len v → n ≡ length v.items
so_many n v is = omega (arith, is, v.ok.0)

pub put_outward-requires : goal.put_outward-requires
put_outward-requires g c =
    let delta = subst (HasChanged c.args.tree.now.facts c.settle.new.self.facts c.args.out.now) (sym c.out-2.view_is) c.in_ok-settle.ensures.delta in
    record { low = λ p h. c.requires.low p (gained_behind c.len-dropped.result c.args.out.now.dropped _ _ (so_many c.len-dropped.result c.out.inside.dropped c.len-dropped.ensures ∙ ap (λ (d : Change). length d.dropped) c.out.view_is) delta.dropped p h).0 }

pub put_outward-requires-2 : goal.put_outward-requires-2
put_outward-requires-2 g c =
    let delta = subst (HasChanged c.args.tree.now.facts c.settle.new.self.facts c.args.out.now) (sym c.out-2.view_is) c.in_ok-settle.ensures.delta in
    record {
      low = λ p h.
          facts_low c.settle.new.self (g.O.Signs.scene c.args.now.now) c.in_ok-settle.ensures.settled
          (subst (λ (n : ℕ). n ≤ 12) (sym (ap (λ (t : Envelope). t.size) c.in_ok-settle.ensures.same)) c.requires.small) p
          (gained_behind c.len-born.result c.args.out.now.born _ _ (so_many c.len-born.result c.out.inside.born c.len-born.ensures ∙ ap (λ (d : Change). length d.born) c.out.view_is) delta.born p h).0;
    }

pub returns-clause-delta : goal.returns-clause-delta
returns-clause-delta g c =
    let delta = subst (HasChanged c.args.tree.now.facts c.settle.new.self.facts c.args.out.now) (sym c.out-2.view_is) c.in_ok-settle.ensures.delta in
    mapped_report (outward c.args.side) (one_outward c.args.side) c.args.tree.now.facts c.settle.new.self.facts c.args.out.now _ _ c.len-dropped.result c.len-born.result
    (so_many c.len-dropped.result c.out.inside.dropped c.len-dropped.ensures ∙ ap (λ (d : Change). length d.dropped) c.out.view_is) (so_many c.len-born.result c.out.inside.born c.len-born.ensures ∙ ap (λ (d : Change). length d.born) c.out.view_is) delta c.put_outward.ensures c.put_outward-2.ensures
