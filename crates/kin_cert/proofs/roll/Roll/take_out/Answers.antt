use Rattle.std.proofs.Common.{◌≡◌, List, Option, IsSome, refl, sym, subst, ap, ◌∙◌}
use Rattle.std.proofs.lemmas.Option.{same_Some}
use Rattle.kin_cert.specs.Entries.{Entry}
use Rattle.kin_fail.specs.Rank.{padded_rank}
use Rattle.kin_cert.specs.Layout.{entry_rank, HasRank, NoneTwice, IsThere, IsVacancyOf}
use Rattle.kin_cert.proofs.Rolls.{once, id-there}
use Rattle.kin_cert.proofs.Enrolling.{struck-id, struck-roll}
use Rattle.kin_cert.specs.Holders.{holder_of}
use Rattle.kin_cert.proofs.roll.Roll.take_out.Goals as goal
use Rattle.kin_cert.proofs.roll.Roll.take_out.Goals.{After-strike-id}

-- the entry that is struck out has the rank
struck : (c : After-strike-id) → HasRank c.self.inside.entries.slots c.strike-id.result (padded_rank c.args.structure c.args.part c.args.form.now)
struck c =
    let slots = c.self.inside.entries.slots in
    let is_id = struck-id c.self.inside.plan slots (holder_of c.self.inside.holders) (holder_of c.strike-id.new.holders) c.self.inside.others c.strike-id.new.others c.args.structure c.args.part c.args.form.now c.strike-id.result c.strike-id.ensures in
    id-there c.self.inside.plan slots (holder_of c.self.inside.holders) c.self.inside.others c.self.invariant c.args.structure c.args.part c.args.form.now c.strike-id.result is_id

pub strike-id-requires : goal.strike-id-requires
strike-id-requires c = record { roll = c.self.invariant; there = subst (λ (s : List (Option Entry)). IsThere s (padded_rank c.args.structure c.args.part c.args.form.now)) (sym c.self.view_is) c.requires.there }

pub remove-entry-requires : goal.remove-entry-requires
remove-entry-requires c =
    let k = struck (goal.at.remove-entry-requires c).After-strike-id in
    subst (λ (o : Option Entry). IsSome o) (sym k.1) refl

pub invariant_of-self : goal.invariant_of-self
invariant_of-self c =
    let k = struck (goal.at.invariant_of-self c).After-strike-id in
    let u = c.remove-entry.ensures.updates in
    struck-roll c.self.inside.plan c.self.inside.entries.slots c.remove-entry.new.self.slots (holder_of c.self.inside.holders) (holder_of c.strike-id.new.holders) c.self.inside.others c.strike-id.new.others c.self.invariant c.strike-id.result k.0 k.1 (record { changed = u.changed; others = u.others })
    c.args.structure c.args.part c.args.form.now k.2 c.strike-id.ensures

pub returns-clause-vacancy : goal.returns-clause-vacancy
returns-clause-vacancy c =
    let k = struck (goal.at.returns-clause-vacancy c).After-strike-id in
    let e_is : k.0 ≡ c.remove-entry.result = same_Some k.0 c.remove-entry.result (sym k.1 ∙ c.remove-entry.ensures.value) in
    subst (λ (s : List (Option Entry)). IsVacancyOf s (padded_rank c.args.structure c.args.part c.args.form.now) (record { id = c.strike-id.result; is_queued = c.is_queued.result })) c.self.view_is
    (record {
      entry = c.remove-entry.result;
      there = c.remove-entry.ensures.value;
      ranked = ap entry_rank (sym e_is) ∙ k.2;
      queued = c.is_queued.ensures;
    })

pub returns-clause-once : goal.returns-clause-once
returns-clause-once c = subst (λ (slots : List (Option Entry)). NoneTwice slots) c.self.view_is (once c.self.inside.plan c.self.inside.entries.slots (holder_of c.self.inside.holders) c.self.inside.others c.self.invariant)
