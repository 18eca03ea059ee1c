-- A tournament without items.
use Rattle.std.proofs.Common.{◌≡◌, refl, sym, ap, ◌∙◌, subst, arith, List, [], ℕ, zero, suc, ◌+◌, ◌*◌, ◌^◌, ◌<◌, ◌≤◌, length, true, false, set, replicate}
use Rattle.std.specs.Prelude.{Option, Some, None, Contains}
use Rattle.std.proofs.lemmas.List.{length-set, length-replicate, get_or-set_same, get_or-set_other}
use Rattle.std.proofs.Math.Pow.{pow_pos}
use Rattle.kin_algebra.proofs.Places.{get_or-replicate_any}
use Rattle.kin_algebra.proofs.Options.{none_or_some}
use Rattle.kin_algebra.specs.declared.sign.Sign.TheVariants.{Zero}
use Rattle.kin_motion.specs.declared.fact.Fact.{Fact}
use Rattle.kin_motion.specs.declared.fact.Placed.{Placed}
use Rattle.kin_motion.specs.Scene.{Scene}
use Rattle.kin_motion.specs.Tournaments.{Key, item_in}
use Rattle.kin_tourney.specs.declared.doubt.Doubt.TheVariants.{Clear, Here}
use Rattle.kin_tourney.specs.Tournament.{IsSettled}
use Rattle.kin_tourney.specs.Standings.{Standings, IsTree, IsClosed, IsRight, fact_in, doubt_in, named_at, entry_at, entry_in, entry_with, item_of, match_of, placed_from, seen_as}
use Rattle.kin_tourney.specs.Sound.{IsSound}
use Rattle.kin_tourney.proofs.Marks.{count_of_top}
use Rattle.kin_motion.specs.Contents.{IsWinner}
use Rattle.kin_tourney.proofs.Placements.{fact_of_placed, placed_facts_once}
use Rattle.kin_tourney.proofs.Entrants.{winner_seen}

abbrev pub fresh : (Item : Type 0) → ℕ → Standings Item
fresh Item size = record { size = size; items = replicate (2 ^ size) None; marked = replicate (2 ^ size) false; best = replicate (2 ^ size) None; facts = replicate (2 ^ size) None; doubts = set (replicate (2 ^ size) Clear) 0 Here }

-- no node but the root is in doubt
pub fresh_clear : (n v : ℕ) → 0 < v → doubt_in (set (replicate n Clear) 0 Here) v ≡ Clear
fresh_clear n v some = get_or-set_other (replicate n Clear) 0 v Here Clear (omega arith) ∙ get_or-replicate_any n v Clear

pub fresh_closed : (n : ℕ) → 0 < n → IsClosed (set (replicate n Clear) 0 Here)
fresh_closed n some = record { top = get_or-set_same (replicate n Clear) 0 Here Clear (let k = length-replicate n Clear in omega arith); below = λ v big e. fresh_clear n v big }

module _ (Item : Type 0) (size : ℕ) where
  items_len : length (replicate {A = Option Item} (2 ^ size) None) ≡ 2 ^ size
  items_len = length-replicate (2 ^ size) None

  len : {A : Type 0} (a : A) → length (replicate (2 ^ size) a) ≡ length (replicate {A = Option Item} (2 ^ size) None)
  len {A} a = length-replicate (2 ^ size) a ∙ sym items_len

  pub fresh_tree : size ≤ 15 → IsTree (fresh Item size)
  fresh_tree small = record {
    small = small;
    items_room = items_len;
    marked_room = len false;
    best_room = len None;
    facts_room = len None;
    doubts_room = length-set (replicate (2 ^ size) Clear) 0 Here ∙ len Clear;
    best_low = λ v i e. absurd (none_or_some (get_or-replicate_any (2 ^ size) v None) e);
    best_under = λ v i e. absurd (none_or_some (get_or-replicate_any (2 ^ size) v None) e);
    closed = fresh_closed (2 ^ size) (pow_pos size);
  }

  no_item : (i : ℕ) → item_in (replicate {A = Option Item} (2 ^ size) None) i ≡ None
  no_item i = get_or-replicate_any (2 ^ size) i None

  no_entry : (o : Option ℕ) → entry_in (replicate {A = Option Item} (2 ^ size) None) o ≡ None
  no_entry None = refl
  no_entry (Some i) = ap (entry_with i) (no_item i)

  pub fresh_sound : 1 ≤ size → (key : Key Item) → IsSound key (fresh Item size)
  fresh_sound some key = record {
    some = some;
    leaves = λ i e. absurd (let k : false ≡ true = sym (get_or-replicate_any (2 ^ size) i false) ∙ e in cc);
    won = λ i u e. absurd (let k : false ≡ true = sym (get_or-replicate_any (2 ^ size) i false) ∙ e in cc);
    consistent = λ v some inside e. (Zero, right v);
    fed = λ v i some inside e. absurd (let z : None ≡ Some i = sym (get_or-replicate_any (2 ^ size) v None) ∙ e in cc);
    no_root = get_or-replicate_any (2 ^ size) 0 None;
    few = let k = count_of_top (set (replicate (2 ^ size) Clear) 0 Here) (fresh_closed (2 ^ size) (pow_pos size)) (fresh_clear (2 ^ size)) in omega arith;
  }
    where
      right : (v : ℕ) → IsRight key (λ f. Zero) (fresh Item size) v
      right v =
          ap (λ (o : Option ℕ). (o, fact_in (fresh Item size).facts v)) (get_or-replicate_any (2 ^ size) v None) ∙ ap (λ (o : Option Fact). (None, o)) (get_or-replicate_any (2 ^ size) v None)
          ∙ sym (ap (λ x. match_of key (λ f. Zero) x (entry_at (fresh Item size) (2 * v + 1))) (no_entry (named_at (fresh Item size) (2 * v))) ∙ ap (λ x. match_of key (λ f. Zero) None x) (no_entry (named_at (fresh Item size) (2 * v + 1))))

  pub no_facts : (n m : ℕ) → placed_from n (replicate m None) ≡ []
  no_facts n zero = refl
  no_facts n (suc m) = no_facts (n + 1) m

  pub fresh_settled : {K : Type 0} (k : K) (names : Item → List ℕ) (key : Key Item) (s : Scene) → size ≤ 15 → IsSettled names key (seen_as k (fresh Item size) true) s
  fresh_settled {K} k names key s small = record {
    room = items_len;
    ready = record {
      whole = refl;
      apart = λ i j a e f. absurd (none_or_some (no_item i) e);
      live = λ i a e. absurd (none_or_some (no_item i) e);
    };
    tournament = record {
      winners = λ v some inside. subst (λ w. IsWinner s key size (fresh Item size).items v w) (sym (winner_seen (fresh Item size) (fresh_tree small) v ∙ ap item_of (no_entry (named_at (fresh Item size) v)))) (λ i h. no_item i);
      exact = record {
        once = placed_facts_once (fresh Item size).facts;
        each = λ p. ((λ there. absurd (nothing p there)), (λ f. absurd (none_or_some (no_item f.left_best.slot) f.left_best.held)));
      };
    };
  }
    where
      nothing : (p : Placed) → Contains (placed_from 0 (replicate (2 ^ size) None)) p → ⊥
      nothing p there = none_or_some (get_or-replicate_any (2 ^ size) p.part None) (fact_of_placed (fresh Item size).facts p there)
