use Rattle.std.proofs.Common.{◌≡◌, ℕ, List, Option, None, Some, IfSome, IfNone, ◌↔◌, refl, subst}
use Rattle.std.specs.List.{Contains}
use Rattle.kin_algebra.specs.declared.sign.Sign.{Sign}
use Rattle.kin_motion.specs.declared.form.Form.{Form}
use Rattle.kin_cert.specs.Entries.{Entry}
use Rattle.kin_cert.specs.Facts.{Facts, LiveFact, IsAt}
use Rattle.kin_fail.specs.Rank.{padded_rank}
use Rattle.kin_cert.specs.Layout.{live_in, live_fact, IsFoundAt, IsNotFound}
use Rattle.kin_cert.proofs.Slots.{live-there, live-from}
use Rattle.kin_cert.proofs.Keys.{some_none}
use Rattle.kin_cert.proofs.Tables.{at-rank, rank-of-live}
use Rattle.kin_cert.proofs.table.Table.sign_of.Goals as goal

module _ (slots : List (Option Entry)) (s p : ℕ) (f : Form) where
  found : (o : Option Sign) → IfSome o (λ sign. IsFoundAt slots (padded_rank s p f) (λ e. e.owned.fact.sign ≡ sign))
      → IfSome o (λ sign. (l : LiveFact) × Contains (live_in slots) l × IsAt s p f l × (l.certificate.placed.fact.sign ≡ sign))
  found None h = tt
  found (Some sign) (id, e, there, ranked, is) = (live_fact e, live-there slots id e there, at-rank s p f e ranked, is)

  none : (o : Option Sign) → IfSome o (λ sign. IsFoundAt slots (padded_rank s p f) (λ e. e.owned.fact.sign ≡ sign)) → IfNone o (IsNotFound slots (padded_rank s p f))
      → (o ≡ None) ↔ ((l : LiveFact) → Contains (live_in slots) l → ¬ (IsAt s p f l))
  none None h n = ((λ e l c at. let k = live-from slots l c in n k.id k.entry k.there (rank-of-live slots s p f l at k)), λ n. refl)
  none (Some sign) (id, e, there, ranked, is) n = ((λ e. absurd (some_none sign e)), λ n. absurd (n (live_fact e) (live-there slots id e there) (at-rank s p f e ranked)))

pub returns-clause-some : goal.returns-clause-some
returns-clause-some c =
    subst (λ (t : Facts). IfSome c.sign_of.result (λ sign. (l : LiveFact) × Contains t.live l × IsAt c.args.structure c.args.part c.args.form.now l × (l.certificate.placed.fact.sign ≡ sign))) c.self.view_is
    (found c.self.inside.roll c.args.structure c.args.part c.args.form.now c.sign_of.result c.sign_of.ensures.some)

pub returns-clause-none : goal.returns-clause-none
returns-clause-none c =
    subst (λ (t : Facts). (c.sign_of.result ≡ None) ↔ ((l : LiveFact) → Contains t.live l → ¬ (IsAt c.args.structure c.args.part c.args.form.now l))) c.self.view_is
    (none c.self.inside.roll c.args.structure c.args.part c.args.form.now c.sign_of.result c.sign_of.ensures.some c.sign_of.ensures.none)
