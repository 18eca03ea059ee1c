use Rattle.std.proofs.Common.{◌≡◌, List, Option, Some, None, IfNone, sym, ap, subst, ◌∙◌}
use Rattle.std.proofs.lemmas.Option.{same_Some}
use Rattle.kin_cert.specs.Entries.{Entry}
use Rattle.kin_fail.specs.declared.owned.Owned.{Owned}
use Rattle.kin_cert.specs.Layout.{entry_at, IsFoundAt, IsNotFound}
use Rattle.kin_fail.specs.Rank.{padded_rank}
use Rattle.kin_cert.proofs.Keys.{some_none}
use Rattle.kin_cert.proofs.Rolls.{id-there, nowhere}
use Rattle.kin_cert.specs.Holders.{holder_of}
use Rattle.kin_cert.proofs.roll.Roll.sign_of.Goals as goal

pub returns-clause-some : goal.returns-clause-some
returns-clause-some c =
    let e = c.in_ok-entry.entry.now in
    let there : entry_at c.self.inside.entries.slots c.in_ok-id.id ≡ Some e = sym c.in_ok-entry.ensures in
    let k = id-there c.self.inside.plan c.self.inside.entries.slots (holder_of c.self.inside.holders) c.self.inside.others c.self.invariant c.args.structure c.args.part c.args.form c.in_ok-id.id c.in_ok-id.ensures.some in
    let e_is : k.0 ≡ e = same_Some k.0 e (sym k.1 ∙ there) in
    subst (λ (slots : List (Option Entry)). IsFoundAt slots (padded_rank c.args.structure c.args.part c.args.form) (λ x. x.owned.fact.sign ≡ c.owned.result.now.fact.sign)) c.self.view_is
    (c.in_ok-id.id, e, there, subst (λ (x : Entry). padded_rank x.owned.structure x.owned.part x.owned.fact.form ≡ padded_rank c.args.structure c.args.part c.args.form) e_is k.2, ap (λ (o : Owned). o.fact.sign) (sym c.owned.ensures))

if-none : {A : Type 0} (o : Option A) (which : Type 0) → which → IfNone o which
if-none None which h = h
if-none (Some x) which h = tt

pub returns-in_err-id-clause-none : goal.returns-in_err-id-clause-none
returns-in_err-id-clause-none c =
    if-none c.from_residual.result _
    (subst (λ (slots : List (Option Entry)). IsNotFound slots (padded_rank c.args.structure c.args.part c.args.form)) c.self.view_is
    (nowhere c.self.inside.plan c.self.inside.entries.slots (holder_of c.self.inside.holders) c.self.inside.others c.self.invariant c.args.structure c.args.part c.args.form c.in_err-id.ensures.none))

pub returns-in_err-entry-clause-none : goal.returns-in_err-entry-clause-none
returns-in_err-entry-clause-none c =
    let k = id-there c.self.inside.plan c.self.inside.entries.slots (holder_of c.self.inside.holders) c.self.inside.others c.self.invariant c.args.structure c.args.part c.args.form c.in_ok-id.id c.in_ok-id.ensures.some in
    absurd (some_none k.0 (sym k.1 ∙ sym c.in_err-entry.ensures))
