-- The journal: which live facts fail, at which moments.
use Rattle.std.specs.Prelude.{◌≡◌, ◌≢◌, ℕ, Bool, true, false, not, ◌&&◌, ◌||◌, ℤ, pos, List, [], ◌∷◌, filter, map, Option, Contains, ◌↔◌, int_lt, int_le}
use Rattle.kin_algebra.specs.declared.sign.Sign.{Sign}
use Rattle.kin_algebra.specs.declared.sign.Sign.TheVariants.{Minus, Zero, Plus}
use Rattle.kin_num.specs.declared.instant.Moment.{Moment}
use Rattle.kin_num.specs.Canonical.{IsCanonical}
use Rattle.kin_motion.specs.declared.form.Form.{Form}
use Rattle.kin_motion.specs.declared.form.Form.TheVariants.{Line, Turn, Slope, Dist}
use Rattle.kin_motion.specs.declared.keep.Keep.{Keep}
use Rattle.kin_motion.specs.Numbers.{IsChain, sorted_by}
use Rattle.kin_motion.specs.Course.{Course}
use Rattle.kin_motion.specs.Scene.{Scene, scene_at}
use Rattle.kin_motion.specs.Live.{Certificate, IsLiveFact, live_facts}
use Rattle.kin_num.specs.Order.{IsEarlier}
use Rattle.kin_motion.specs.Moments.{HoldsAt, HoldsUntil}

-- what is kept, and what is seen at each moment
pub record Setting : Type 0 where
  pub size : ℕ
  pub keeps : List Keep
  pub scene : Moment → Scene

-- what is kept, and what is seen at each moment as these motions go on
abbrev pub setting_of : List (Option Course) → ℕ → List Keep → Setting
setting_of ms size keeps = record { size = size; keeps = keeps; scene = scene_at ms }

-- a fact that was live, with its new sign
pub record Failure : Type 0 where
  pub was : Certificate
  pub now : Sign

-- the failures at one moment
pub record Block : Type 0 where
  pub moment : Moment
  pub failures : List Failure

-- kind of form and its numbers, the most significant first
abbrev pub form_rank : Form → List ℤ
form_rank (Line dx dy off i j) = pos 0 ∷ dx ∷ dy ∷ off ∷ pos i ∷ pos j ∷ []
form_rank (Turn i j k) = pos 1 ∷ pos i ∷ pos j ∷ pos k ∷ []
form_rank (Slope i j k l) = pos 2 ∷ pos i ∷ pos j ∷ pos k ∷ pos l ∷ []
form_rank (Dist i j k l) = pos 3 ∷ pos i ∷ pos j ∷ pos k ∷ pos l ∷ []

-- the numbers by which a failure is ordered: structure, part and those of the form, the most significant first
abbrev pub rank_of : Failure → List ℤ
rank_of f = pos f.was.structure ∷ pos f.was.placed.part ∷ form_rank f.was.placed.fact.form

-- less at the first place where they differ
abbrev pub is_less_rank : List ℤ → List ℤ → Bool
is_less_rank [] ys = false
is_less_rank (x ∷ xs) [] = false
is_less_rank (x ∷ xs) (y ∷ ys) = int_lt x y || (int_le x y && is_less_rank xs ys)

-- the failure with the lesser rank is listed first
abbrev pub is_listed_before : Failure → Failure → Bool
is_listed_before f g = is_less_rank (rank_of f) (rank_of g)

-- a fact live at `now` that does not hold at m, and its sign there
pub record IsFailure (t : Setting) (now m : Moment) (f : Failure) : Type 0 where
  pub live : IsLiveFact t.size t.keeps (t.scene now) f.was
  pub fails : ¬ (HoldsAt t.scene m f.was.placed.fact)
  pub sign : f.now ≡ (t.scene m).sign f.was.placed.fact.form

-- every fact live at the first moment holds from it on and before the other
abbrev pub AllHoldUntil : Setting → Moment → Moment → Type 0
AllHoldUntil t first last = (c : Certificate) → IsLiveFact t.size t.keeps (t.scene first) c → HoldsUntil t.scene first last c.placed.fact

-- every fact live at the first moment holds at the other
abbrev pub AllHoldAt : Setting → Moment → Moment → Type 0
AllHoldAt t first m = (c : Certificate) → IsLiveFact t.size t.keeps (t.scene first) c → HoldsAt t.scene m c.placed.fact

-- no fact live at the moment ever fails
abbrev pub NothingFails : Setting → Moment → Type 0
NothingFails t now = (c : Certificate) → IsLiveFact t.size t.keeps (t.scene now) c → (m : Moment) → IsCanonical m.at → ¬ (IsEarlier m now) → HoldsAt t.scene m c.placed.fact

-- the next block after `now`: exactly the facts live at `now` that do not hold at its moment, and all of them hold before it
pub record IsNextBlock (t : Setting) (now : Moment) (b : Block) : Type 0 where
  pub canonical : IsCanonical b.moment.at
  pub later : IsEarlier now b.moment
  pub some : b.failures ≢ []
  pub exact : (f : Failure) → Contains b.failures f ↔ IsFailure t now b.moment f
  pub in_order : IsChain is_listed_before b.failures
  pub hold_before : AllHoldUntil t now b.moment

-- the journal from `now` to `last`: block after block, and after the last one nothing fails up to `last`
abbrev pub IsJournal : Setting → Moment → Moment → List Block → Type 0
IsJournal t now last [] = AllHoldUntil t now last × AllHoldAt t now last
IsJournal t now last (b ∷ bs) = IsNextBlock t now b × ¬ (IsEarlier last b.moment) × IsJournal t b.moment last bs

-- the failures of the next block by computation, where its moment is known
abbrev pub same_sign : Sign → Sign → Bool
same_sign Minus Minus = true
same_sign Zero Zero = true
same_sign Plus Plus = true
same_sign Minus Zero = false
same_sign Minus Plus = false
same_sign Zero Minus = false
same_sign Zero Plus = false
same_sign Plus Minus = false
same_sign Plus Zero = false

-- a fact with its sign in the scene
abbrev pub seen_in : Scene → Certificate → Failure
seen_in s c = record { was = c; now = s.sign c.placed.fact.form }

-- the sign now is another
abbrev pub has_failed : Failure → Bool
has_failed f = not (same_sign f.now f.was.placed.fact.sign)

-- the facts live at `now` whose sign at m is another, in the order of failures
abbrev pub failures_at : Setting → Moment → Moment → List Failure
failures_at t now m = sorted_by is_listed_before (filter has_failed (map (seen_in (t.scene m)) (live_facts t.size t.keeps (t.scene now))))
