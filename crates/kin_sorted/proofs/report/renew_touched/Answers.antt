use Rattle.std.proofs.Common.{◌≡◌, refl, ap, ap₂, ◌∙◌, subst, arith, List, length, length-set, set, Some, Option, get_or, inl}
use Rattle.std.specs.Prelude.{slice_get}
use Rattle.std.proofs.lemmas.Option.{slice_get-get_or, slice_get_within}
use Rattle.kin_motion.specs.declared.fact.Placed.{Placed}
use Rattle.kin_motion.specs.Deltas.{Change}
use Rattle.kin_sorted.specs.declared.link.Link.{Link}
use Rattle.kin_sorted.specs.Links.{link_for, facts_from, IsTold}
use Rattle.kin_sorted.proofs.ReportLaws.{renewed, renewed_each, renewed_done, renewed_others}
use Rattle.kin_sorted.proofs.RowLaws.{get_from_is_in}
use Rattle.kin_sorted.proofs.TellingLaws.{told_none}
use Rattle.kin_sorted.proofs.report.renew_touched.Goals as goal

-- the change is made of both lists
both : (ds ds' bs bs' : List Placed) → (ds' ≡ ds) × (bs' ≡ bs) → ◌≡◌ {A = Change} (record { dropped = ds'; born = bs' }) (record { dropped = ds; born = bs })
both ds ds' bs bs' e = ap₂ (λ (d b : List Placed). record { dropped = d; born = b }) e.0 e.1

pub loop-slot-init : goal.loop-slot-init
loop-slot-init g c = record {
  items = refl;
  room = refl;
  signs = refl;
  same_length = refl;
  each = λ i. inl refl;
  done = λ k i l. absurd (omega arith);
  others = λ i out. refl;
  told = told_none c.args.part (facts_from (g.R.Ranked.ranks c.args.rank.now) 0 c.args.row.now.links) (record { dropped = c.args.dropped.now.items; born = c.args.born.now.items });
}

pub loop-slot-preserved : goal.loop-slot-preserved
loop-slot-preserved g c =
    let no = get_or c.args.touched.now c.loop-slot.slot-index 0 in
    let at = slice_get-get_or c.args.touched.now c.loop-slot.slot-index 0 c.loop-slot-test.true in
    let first = c.args.row.now.links in
    let now = c.loop-slot.row.links in
    let after = c.renew.new.row.links in
    let target = link_for c.args.row.now.items c.args.row.now.signs in
    let here : link_for c.loop-slot.row.items c.loop-slot.row.signs no ≡ target no = ap₂ (λ xs ts. link_for xs ts no) c.loop-slot.invariant.items c.loop-slot.invariant.signs in
    let written : after ≡ set now no (target no) = c.in_ok-renew.ensures.links ∙ ap (set now no) here in
    let tells : (old : Option Link) → slice_get now no ≡ Some old → IsTold c.args.part (g.R.Ranked.ranks c.args.rank.now) no old
    (target no) c.loop-slot.dropped.items c.loop-slot.born.items c.renew.new.dropped.items c.renew.new.born.items =
    λ old h. subst (λ (n : Option Link). IsTold c.args.part
    (g.R.Ranked.ranks c.args.rank.now) no old n c.loop-slot.dropped.items c.loop-slot.born.items c.renew.new.dropped.items c.renew.new.born.items) here (c.in_ok-renew.ensures.tells old h) in
    record {
      items = c.renew.ensures.same.0 ∙ c.loop-slot.invariant.items;
      room = c.renew.ensures.same.1 ∙ c.loop-slot.invariant.room;
      signs = c.renew.ensures.same.2 ∙ c.loop-slot.invariant.signs;
      same_length = ap length c.in_ok-renew.ensures.links ∙ length-set now no _ ∙ c.loop-slot.invariant.same_length;
      each = renewed_each (g.R.Ranked.ranks c.args.rank.now) (g.met.R.Ranked.law c.args.rank.now) first now after no (target no) written target refl c.loop-slot.invariant.each;
      done = renewed_done (g.R.Ranked.ranks c.args.rank.now) (g.met.R.Ranked.law c.args.rank.now) first now after no
          (target no) written target c.args.touched.now c.loop-slot.slot-index refl at c.loop-slot.invariant.same_length c.loop-slot.invariant.done;
      others = renewed_others (g.R.Ranked.ranks c.args.rank.now) (g.met.R.Ranked.law c.args.rank.now) first now after no
          (target no) written c.args.touched.now c.loop-slot.slot-index at c.loop-slot.invariant.others;
      told = renewed (g.R.Ranked.ranks c.args.rank.now) (g.met.R.Ranked.law c.args.rank.now) first now after no (target no) written c.args.part
          (record { dropped = c.args.dropped.now.items; born = c.args.born.now.items }) (record { dropped = c.loop-slot.dropped.items; born = c.loop-slot.born.items })
          (record { dropped = c.renew.new.dropped.items; born = c.renew.new.born.items })
          (c.loop-slot.invariant.each no)
          (λ l. both c.loop-slot.dropped.items c.renew.new.dropped.items c.loop-slot.born.items c.renew.new.born.items (c.renew.ensures.past l))
          (λ h. both c.loop-slot.dropped.items c.renew.new.dropped.items c.loop-slot.born.items c.renew.new.born.items ((tells (target no) h).same refl))
          (λ old h n. both _ c.renew.new.dropped.items _ c.renew.new.born.items ((tells old h).changed n))
          c.loop-slot.invariant.told;
    }

pub returns-clause-touched : goal.returns-clause-touched
returns-clause-touched g c = λ i l h.
    let g = get_from_is_in c.args.touched.now i h in
    let m = slice_get_within c.args.touched.now g.0 i g.1 in
    c.loop-slot.invariant.done g.0 i (let t = c.loop-slot-test.false in omega arith) g.1 l
