-- Short names for writing examples.
use Rattle.std.specs.Prelude.{ℕ, ℤ, pos, Bool, List, ◌∷◌, length, Option, Some}
use Rattle.kin_algebra.specs.declared.sign.Sign.{Sign}
use Rattle.kin_num.specs.declared.instant.Shape.TheVariants.{Ratio}
use Rattle.kin_num.specs.declared.instant.Phase.TheVariants.{At, After}
use Rattle.kin_num.specs.declared.instant.Moment.{Moment}
use Rattle.kin_motion.specs.declared.form.Form.{Form}
use Rattle.kin_motion.specs.declared.fact.Placed.{Placed}
use Rattle.kin_motion.specs.declared.keep.Keep.{Keep}
use Rattle.kin_motion.specs.Course.{Course}
use Rattle.kin_motion.specs.Numbers.{sorted_by}
use Rattle.kin_motion.specs.Scene.{Scene, scene_at}
use Rattle.kin_motion.specs.Live.{keep_facts, live_facts}
use Rattle.kin_motion.specs.Journal.{Setting, Failure, form_rank, is_less_rank}

abbrev pub point : ℤ → ℤ → ℤ → ℤ → Option Course
point x y u v = Some (record { x = x; y = y; u = u; v = v })

abbrev pub at : ℤ → Moment
at n = record { at = Ratio n (pos 1); phase = At }

abbrev pub after : ℤ → Moment
after n = record { at = Ratio n (pos 1); phase = After }

abbrev pub setting : ℕ → List Keep → List (Option Course) → Setting
setting size keeps ms = record { size = size; keeps = keeps; scene = scene_at ms }

abbrev pub failure : ℕ → ℕ → Form → Sign → Sign → Failure
failure structure part form old new = record { was = record { structure = structure; placed = record { part = part; fact = record { form = form; sign = old } } }; now = new }

abbrev pub count_at : Setting → Moment → ℕ
count_at t m = length (live_facts t.size t.keeps (t.scene m))

-- the fact of a part with its form and sign
abbrev pub fact : ℕ → Form → Sign → Placed
fact part form sign = record { part = part; fact = record { form = form; sign = sign } }

-- by part, then by the kind of form and its numbers
abbrev pub is_in_front : Placed → Placed → Bool
is_in_front p q = is_less_rank (pos p.part ∷ form_rank p.fact.form) (pos q.part ∷ form_rank q.fact.form)

-- the facts of one kept structure, in the journal's order
abbrev pub facts_in_order : ℕ → Keep → Scene → List Placed
facts_in_order size keep s = sorted_by is_in_front (keep_facts size s keep)
