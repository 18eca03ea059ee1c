-- Which facts weren't given.
use Rattle.std.proofs.Common.{◌≡◌, ℕ, ◌+◌, ◌<◌, ◌≤◌, Bool, true, false, ◌&&◌, not, cond, List, [], ◌∷◌, length, get_or, take, Option, None, is_some, refl, sym, ap, subst, ◌∙◌, arith}
use Rattle.std.specs.List.{Contains}
use Rattle.std.proofs.lemmas.List.Folds.{Any-from_list_any, list_any_at}
use Rattle.std.proofs.lemmas.List.Sums.{sum_by-cons, count_by_more_no, count_by_more_yes}
use Rattle.kin_algebra.proofs.Members.{contains_head, contains_tail}
use Rattle.kin_num.specs.declared.instant.Moment.{Moment}
use Rattle.kin_motion.specs.declared.fact.Placed.{Placed}
use Rattle.kin_motion.specs.declared.form.Form.{Form}
use Rattle.kin_cert.specs.Entries.{Entry}
use Rattle.kin_cert.specs.declared.entry.Vacancy.{Vacancy}
use Rattle.kin_cert.specs.Facts.{LiveFact}
use Rattle.kin_cert.specs.Applied.{IsOf}
use Rattle.kin_cert.specs.Cost.{is_of, is_ungiven, ungiven}
use Rattle.kin_fail.specs.Rank.{is_rank, padded_rank, owned_rank}
use Rattle.kin_cert.specs.Layout.{held, live_fact, live_in, IsVacancyOf}
use Rattle.kin_fail.proofs.Ranks.{both_hold, rank_names, rank_same, rank_itself}
use Rattle.kin_cert.proofs.Slots.{live-there}
use Rattle.kin_cert.proofs.Tables.{at-rank}

-- a live fact that tells that this one wasn't given
pub record IsUngiven (structure : ℕ) (live : List LiveFact) (p : Placed) : Type 0 where
  pub fact : LiveFact
  pub there : Contains live fact
  pub of : IsOf structure p fact
  pub waits_not : fact.waits ≡ false

from-test : (s : ℕ) (p : Placed) (l : LiveFact) → is_of s p l ≡ true → IsOf s p l
from-test s p l t =
    let n = rank_names l.certificate.structure l.certificate.placed.part l.certificate.placed.fact.form s p.part p.fact.form (rank_same _ _ t) in
    record { structure_is = n.structure; part_is = n.part; form_is = n.form }

to-test : (s : ℕ) (p : Placed) (l : LiveFact) → IsOf s p l → is_of s p l ≡ true
to-test s p l at =
    ap (λ (x : ℕ). is_rank (padded_rank x l.certificate.placed.part l.certificate.placed.fact.form) (padded_rank s p.part p.fact.form)) at.structure_is
    ∙ ap (λ (x : ℕ). is_rank (padded_rank s x l.certificate.placed.fact.form) (padded_rank s p.part p.fact.form)) at.part_is
    ∙ ap (λ (x : Form). is_rank (padded_rank s p.part x) (padded_rank s p.part p.fact.form)) at.form_is
    ∙ rank_itself (padded_rank s p.part p.fact.form)

not_true : (b : Bool) → not b ≡ true → b ≡ false
not_true true e = sym e
not_true false e = refl

both_so : (a b : Bool) → a ≡ false → b ≡ true → not a && b ≡ true
both_so a b f t = ap (λ (x : Bool). not x && b) f ∙ t

pub some-ungiven : (s : ℕ) (live : List LiveFact) (p : Placed) → is_ungiven s live p ≡ true → IsUngiven s live p
some-ungiven s live p t =
    let k = Any-from_list_any (λ (l : LiveFact). not l.waits && is_of s p l) live t in
    let h = both_hold (not k.1.waits) (is_of s p k.1) k.4 in
    record { fact = k.1; there = (k.0, k.2, k.3); of = from-test s p k.1 h.1; waits_not = not_true k.1.waits h.0 }

pub ungiven-some : (s : ℕ) (live : List LiveFact) (p : Placed) → IsUngiven s live p → is_ungiven s live p ≡ true
ungiven-some s live p u =
    list_any_at (λ (l : LiveFact). not l.waits && is_of s p l) live u.there.0 u.fact u.there.1
    (ap (λ (l : LiveFact). not l.waits && is_of s p l) u.there.2 ∙ both_so u.fact.waits (is_of s p u.fact) u.waits_not (to-test s p u.fact u.of))

-- ---- among fewer live facts
module _ (s : ℕ) (old cur : List LiveFact) where
  pub still-ungiven : (p : Placed) → ((l : LiveFact) → Contains cur l → IsOf s p l → Contains old l) → is_ungiven s cur p ≡ true → is_ungiven s old p ≡ true
  still-ungiven p was t = let u = some-ungiven s cur p t in ungiven-some s old p (record { fact = u.fact; there = was u.fact u.there u.of; of = u.of; waits_not = u.waits_not })

pub cost_if : (a b : Bool) (r : ℕ) → (a ≡ true → b ≡ true) → cond a r 0 ≤ cond b r 0
cost_if true b r h = subst (λ (x : Bool). r ≤ cond x r 0) (sym (h refl)) (omega arith)
cost_if false b r h = omega arith

pub ungiven-cons : (s : ℕ) (live : List LiveFact) (p : Placed) (ps : List Placed) → ungiven s live (p ∷ ps) ≡ cond (is_ungiven s live p) 1 0 + ungiven s live ps
ungiven-cons s live p ps = sum_by-cons (λ (q : Placed). cond (is_ungiven s live q) 1 0) p ps

pub fewer-ungiven : (s : ℕ) (old cur : List LiveFact) (ps : List Placed) → ((p : Placed) → Contains ps p → (l : LiveFact) → Contains cur l → IsOf s p l → Contains old l) → ungiven s cur ps ≤ ungiven s old ps
fewer-ungiven s old cur [] was = omega arith
fewer-ungiven s old cur (p ∷ ps) was =
    let here = cost_if (is_ungiven s cur p) (is_ungiven s old p) 1 (still-ungiven s old cur p (was p (contains_head p ps))) in
    let rest = fewer-ungiven s old cur ps (λ q there. was q (contains_tail p q ps there)) in
    omega (arith, ungiven-cons s old p ps, ungiven-cons s cur p ps, here, rest)

-- one more of the first ones
pub more-ungiven : (s : ℕ) (live : List LiveFact) (ps : List Placed) (i : ℕ) (d : Placed) → i < length ps → ungiven s live (take (i + 1) ps) ≡ ungiven s live (take i ps) + cond (is_ungiven s live (get_or ps i d)) 1 0
more-ungiven s live ps i d lt = at (is_ungiven s live (get_or ps i d)) refl
  where
    at : (b : Bool) → is_ungiven s live (get_or ps i d) ≡ b → ungiven s live (take (i + 1) ps) ≡ ungiven s live (take i ps) + cond b 1 0
    at true e = count_by_more_yes (is_ungiven s live) ps i d lt e
    at false e = let same = count_by_more_no (is_ungiven s live) ps i d lt e in omega (arith, same)

-- ---- a fact in the queue
waits_not : (w : Bool) (o : Option Moment) → is_some (cond w None o) ≡ true → w ≡ false
waits_not true o e = sym e
waits_not false o e = refl

-- what the queue has wasn't given
pub queued-ungiven : (s : ℕ) (p : Placed) (slots : List (Option Entry)) (vacancy : Vacancy) → IsVacancyOf slots (owned_rank (held s p)) vacancy → vacancy.is_queued ≡ true → is_ungiven s (live_in slots) p ≡ true
queued-ungiven s p slots vacancy k queued = ungiven-some s (live_in slots) p (record {
  fact = live_fact k.entry;
  there = live-there slots vacancy.id k.entry k.there;
  of = at-rank s p.part p.fact.form k.entry k.ranked;
  waits_not = waits_not k.entry.is_waiting k.entry.fails (sym k.queued ∙ queued);
})
