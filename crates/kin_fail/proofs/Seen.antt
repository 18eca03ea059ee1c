-- A fact fails as its polynomial says.
use Rattle.std.proofs.Common.{◌≡◌, ◌∙◌, ◌<◌, ◌≤◌, ◌^◌, ℕ, ℤ, unsigned_abs, w32, to_z, of_z, List, Option, Some, None, ap, sym, subst, arith}
use Rattle.std.proofs.lemmas.Int.{to_z-of_z, fits_signed_from_abs}
use Rattle.kin_num.specs.declared.instant.Moment.{Moment}
use Rattle.kin_num.specs.Instants.{sign_at}
use Rattle.kin_motion.specs.declared.fact.Fact.{Fact}
use Rattle.kin_motion.specs.declared.form.Form.{Form}
use Rattle.kin_motion.specs.declared.form.Form.TheVariants.{Line}
use Rattle.kin_motion.specs.Course.{Course}
use Rattle.kin_motion.specs.Forms.{IsAskable, sign_of_form, polynomial_of}
use Rattle.kin_motion.specs.Scene.{scene_at, Holds}
use Rattle.kin_fail.specs.Failures.{IsFirstFailure, seen_by}

pub holds-seen : (ms : List (Option Course)) (f : Fact) (m : Moment) → Holds (scene_at ms m) f → sign_at (polynomial_of ms f.form) m ≡ f.sign
unfolding sign_of_form
holds-seen ms f m h = h

pub seen-holds : (ms : List (Option Course)) (f : Fact) (m : Moment) → sign_at (polynomial_of ms f.form) m ≡ f.sign → Holds (scene_at ms m) f
unfolding sign_of_form
seen-holds ms f m h = h

pub failure-seen : (ms : List (Option Course)) (f : Fact) (now : Moment) (o : Option Moment) → IsFirstFailure (seen_by (polynomial_of ms f.form)) now f o → IsFirstFailure (scene_at ms) now f o
unfolding sign_of_form
failure-seen ms f now None h = h
failure-seen ms f now (Some m) h =
    record { canonical = h.canonical; later_is_later = h.later_is_later; holds_until = h.holds_until; fails = h.fails }

-- the numbers of a line as the code reads them
abbrev read : ℤ → ℤ
read x = to_z w32 (of_z w32 x)

pub line-read : (live : List ℕ) (form : Form) (dx dy off : ℤ) (i j : ℕ) → IsAskable live form → form ≡ Line dx dy off i j → Line (read dx) (read dy) (read off) i j ≡ form
line-read live form dx dy off i j askable is =
    let h : IsAskable live (Line dx dy off i j) = subst (IsAskable live) is askable in
    ap (λ (x : ℤ). Line x (read dy) (read off) i j) (few dx h.dx_small) ∙ ap (λ (x : ℤ). Line dx x (read off) i j) (few dy h.dy_small) ∙ ap (λ (x : ℤ). Line dx dy x i j) (many off h.off_small) ∙ sym is
  where
    clean : (x : ℤ) → unsigned_abs x < 2 ^ 31 → read x ≡ x
    clean x h = to_z-of_z w32 x (fits_signed_from_abs w32 x h)

    few : (x : ℤ) → unsigned_abs x ≤ 16 → read x ≡ x
    few x h = clean x (omega arith)

    many : (x : ℤ) → unsigned_abs x ≤ 2 ^ 16 → read x ≡ x
    many x h = clean x (omega arith)
