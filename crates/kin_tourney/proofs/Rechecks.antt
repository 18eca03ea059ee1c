-- A node in doubt whose halves are as they were: what its fact tells of its match.
use Rattle.std.proofs.Common.{◌≡◌, ◌≢◌, inl, inr, refl, sym, ap, ◌∙◌, subst, ℕ, ◌/◌, ◌<◌, List, length, set, Bool, true, false, not, eqb, arith}
use Rattle.std.specs.Prelude.{Option, Some, None}
use Rattle.std.specs.Option.{option_eq}
use Rattle.std.proofs.lemmas.Bool.Decides.{nat_tests}
use Rattle.std.proofs.lemmas.List.{get_or-set_same, get_or-set_other}
use Rattle.kin_algebra.specs.declared.sign.Sign.{Sign}
use Rattle.kin_motion.specs.declared.form.Form.{Form}
use Rattle.kin_motion.specs.declared.fact.Fact.{Fact}
use Rattle.kin_motion.specs.Deltas.{Change}
use Rattle.kin_motion.specs.Tournaments.{Key}
use Rattle.kin_tourney.specs.declared.doubt.Doubt.{Doubt}
use Rattle.kin_tourney.specs.declared.doubt.Doubt.TheVariants.{Clear, Below, Here}
use Rattle.kin_tourney.specs.Standings.{Standings, best_in, fact_in, match_at}
use Rattle.kin_tourney.specs.Repairs.{IsReplayed, IsReported, IsRightOnce, needs_play}
use Rattle.kin_tourney.proofs.Entrants.{right_where_held}

-- of all matches in doubt each is played again
pub plays_all : (all : Bool) (d : Doubt) → all ≡ true → d ≢ Clear → needs_play all d ≡ true
plays_all false d e n = absurd (let z : false ≡ true = e in cc)
plays_all true Clear e n = absurd (n refl)
plays_all true Below e n = refl
plays_all true Here e n = refl

-- and else only those that are in doubt themselves
pub passes_below : (d : Doubt) → d ≢ Here → needs_play false d ≡ false
passes_below Clear n = refl
passes_below Below n = refl
passes_below Here n = absurd (n refl)

module _ {Item : Type 0} (key : Key Item) (signs : Form → Sign) (t : Standings Item) (v : ℕ) (once : IsRightOnce key t v) where
  -- where its fact holds the match ends as before
  pub replayed_held : ((f : Fact) → fact_in t.facts v ≡ Some f → signs f.form ≡ f.sign) → (c : Change) → IsReplayed key signs v t t c c
  replayed_held hold c = record {
    same_size = refl;
    same_items = refl;
    same_marked = refl;
    other_best = λ u n. refl;
    other_facts = λ u n. refl;
    played = right_where_held key t v once.0 signs once.1 hold;
    reported = inl (refl, refl);
    doubts = inl (refl, refl);
  }

-- a node's match was played and its fact told
module _ {Item : Type 0} (key : Key Item) (sign : Form → Sign) (node : ℕ) (old told : Standings Item) (before after : Change) (best : Option ℕ)
    (same : told ≡ record old { facts = told.facts }) (value : (best, fact_in told.facts node) ≡ match_at key sign old node) (facts : told.facts ≡ set old.facts node (fact_in told.facts node))
    (reported : IsReported node (fact_in old.facts node) (fact_in told.facts node) before after) where
  other_facts : (v : ℕ) → v ≢ node → fact_in told.facts v ≡ fact_in old.facts v
  other_facts v n = ap (λ (l : List (Option Fact)). fact_in l v) facts ∙ get_or-set_other old.facts node v (fact_in told.facts node) None n

  -- it has the same winner
  pub replayed_same : best ≡ best_in told.best node → IsReplayed key sign node old told before after
  replayed_same kept = record {
    same_size = ap (λ (t : Standings Item). t.size) same;
    same_items = ap (λ (t : Standings Item). t.items) same;
    same_marked = ap (λ (t : Standings Item). t.marked) same;
    other_best = λ v n. ap (λ (t : Standings Item). best_in t.best v) same;
    other_facts = other_facts;
    played = subst (λ (o : Option ℕ). (o, fact_in told.facts node) ≡ match_at key sign old node) kept value;
    reported = reported;
    doubts = inl (ap (λ (t : Standings Item). best_in t.best node) same, ap (λ (t : Standings Item). t.doubts) same);
  }

  -- it may have another one, and the node above has to be played again
  pub replayed_other : node < length old.best → IsReplayed key sign node old (record told { best = set told.best node best; doubts = set told.doubts (node / 2) Here }) before after
  replayed_other inside = record {
    same_size = ap (λ (t : Standings Item). t.size) same;
    same_items = ap (λ (t : Standings Item). t.items) same;
    same_marked = ap (λ (t : Standings Item). t.marked) same;
    other_best = λ v n. get_or-set_other told.best node v best None n ∙ ap (λ (t : Standings Item). best_in t.best v) same;
    other_facts = other_facts;
    played = subst (λ (o : Option ℕ). (o, fact_in told.facts node) ≡ match_at key sign old node) (sym (get_or-set_same told.best node best None (subst (λ (t : Standings Item). node < length t.best) (sym same) inside))) value;
    reported = reported;
    doubts = inr (ap (λ (t : Standings Item). set t.doubts (node / 2) Here) same);
  }

-- a winner that isn't another one is the same
pub same_winner : (new was : Option ℕ) (b : Bool) → b ≡ false → b ≡ not (option_eq eqb new was) → new ≡ was
same_winner None None b off e = refl
same_winner None (Some j) b off e = absurd (let f : false ≡ true = sym off ∙ e in cc)
same_winner (Some i) None b off e = absurd (let f : false ≡ true = sym off ∙ e in cc)
same_winner (Some i) (Some j) b off e = let f : false ≡ not (eqb i j) = sym off ∙ e in ap Some (grind (arith, nat_tests, f))
