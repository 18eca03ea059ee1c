-- What is told in a part is the change of the facts of that part.
use Rattle.std.proofs.Common.{◌≡◌, sym, ap, ◌∙◌, arith, List, [], ◌∷◌, ◌++◌, ℕ, ◌+◌, length, length-append, map, refl}
use Rattle.std.proofs.lemmas.List.{append-nil}
use Rattle.kin_motion.specs.declared.fact.Placed.{Placed}
use Rattle.kin_motion.specs.Deltas.{Change}
use Rattle.kin_motion.specs.Kinetics.{HasGained, HasChanged}
use Rattle.kin_motion.specs.Parts.{moved_by}
use Rattle.kin_motion.proofs.ChangeLaws.{nothing_changed}
use Rattle.kin_motion.proofs.PartLaws.{moved_facts_change}
use Rattle.kin_sorted.specs.Sorting.{AreFewTests}
use Rattle.kin_sorted.specs.Telling.{nothing_told, IsToldIn}

-- where the facts stay, nothing is told
pub told_none : (part : ℕ) (facts : List Placed) (start : Change) → IsToldIn part facts facts start start
told_none part facts start = record {
  change = nothing_told;
  changed = nothing_changed facts nothing_told;
  told = let d = append-nil start.dropped in let b = append-nil start.born in λ t. record { dropped = sym d t; born = sym b t };
}

gained_behind : (before after more : List Placed) (which : Placed → Type 0) → after ≡ before ++ more → HasGained [] more which → HasGained before after which
gained_behind before after more which e g = record { more = g.more; joined = e ∙ ap (λ (l : List Placed). before ++ l) g.joined; exactly = g.exactly }

pub changed_in_part : (part : ℕ) (old new : List Placed) (before after : Change) → IsToldIn part old new before after → HasChanged (map (moved_by part) old) (map (moved_by part) new) before after
changed_in_part part old new before after told =
    let moved = moved_facts_change part old new nothing_told told.change told.changed in
    record {
      dropped = gained_behind before.dropped after.dropped (map (moved_by part) told.change.dropped) _ (ap (λ (c : Change). c.dropped) told.told) moved.dropped;
      born = gained_behind before.born after.born (map (moved_by part) told.change.born) _ (ap (λ (c : Change). c.born) told.told) moved.born;
    }

-- in part 0 they are as they are
pub moved_nowhere : (facts : List Placed) → map (moved_by 0) facts ≡ facts
moved_nowhere [] = refl
moved_nowhere (p ∷ ps) =
    let e : 0 + p.part ≡ p.part = omega arith in
    let rest = moved_nowhere ps in
    λ t. record { part = e t; fact = p.fact } ∷ rest t

length-map : (f : Placed → Placed) (xs : List Placed) → length (map f xs) ≡ length xs
length-map f [] = refl
length-map f (x ∷ xs) = let e = length-map f xs in omega arith

longer : (f : Placed → Placed) (before after more : List Placed) → after ≡ before ++ map f more → length after ≡ length before + length more
longer f before after more e = let l = ap length e in let a = length-append before (map f more) in let m = length-map f more in omega arith

-- the tests that what is told allows
pub few_in_part : (part : ℕ) (many : ℕ) (old new : List ℕ) (facts facts' : List Placed) (out out' : Change) (before after : ℕ) (told : IsToldIn part facts facts' out out')
    → AreFewTests many old new nothing_told told.change before after → AreFewTests many old new out out' before after
few_in_part part many old new facts facts' out out' before after told few =
    let d = longer (moved_by part) out.dropped out'.dropped told.change.dropped (ap (λ (c : Change). c.dropped) told.told) in
    let b = longer (moved_by part) out.born out'.born told.change.born (ap (λ (c : Change). c.born) told.told) in
    let bound = few.bound in
    record { halvings = few.halvings; each = few.each; allowed = few.allowed; bound = omega arith }
