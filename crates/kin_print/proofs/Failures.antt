-- The pieces of a failure are its text.
use Rattle.std.proofs.Common.{◌≡◌, ℕ, ℤ, pos, negsuc, false, List, [], ◌∷◌, ◌++◌, sym, ap, append_assoc, arith, codes, unsigned_abs, ◌==◌, flat_map}
use Rattle.std.specs.Fmt.{decimal, signed_decimal}
use Rattle.std.specs.List.{join_by}
use Rattle.std.proofs.lemmas.Bool.Decides.{nat_tests}
use Rattle.kin_num.specs.declared.instant.Moment.{Moment}
use Rattle.kin_motion.specs.declared.form.Form.{Form}
use Rattle.kin_motion.specs.declared.form.Form.TheVariants.{Line, Turn, Slope, Dist}
use Rattle.kin_motion.specs.Journal.{Failure}
use Rattle.kin_script.specs.Printed.{moment_text}
use Rattle.kin_script.specs.PrintedJournal.{sign_text, line_text, kind_text, form_text, failure_line}
use Rattle.kin_motion.specs.Forms.{numbers_of}
use Rattle.kin_print.specs.Pieces.{spaced, owner_piece, signs_piece}

not_zero : (z : ℤ) → (z ≡ pos 0 → ⊥) → (unsigned_abs z == 0) ≡ false
not_zero (pos n) other = let more : n ≡ 0 → ⊥ = λ e. other (ap pos e) in grind (arith, nat_tests)
not_zero (negsuc n) other = grind (arith, nat_tests)

line_joined : (h x c y z e : List ℕ) → h ++ (x ++ (c ++ (y ++ (c ++ (z ++ e))))) ≡ h ++ x ++ c ++ y ++ (c ++ z) ++ e
line_joined h x c y z e = simp append_assoc

pub line_pieces : (dx dy off : ℤ) (x y z : List ℕ)
    → x ≡ signed_decimal dx → y ≡ signed_decimal dy → z ≡ signed_decimal off → (off ≡ pos 0 → ⊥)
    → codes "line(" ++ (x ++ (codes "," ++ (y ++ (codes "," ++ (z ++ codes ")"))))) ≡ line_text dx dy off
line_pieces dx dy off x y z p q r other = rw (p, q, r, not_zero off other) (line_joined (codes "line(") (signed_decimal dx) (codes ",") (signed_decimal dy) (signed_decimal off) (codes ")"))

-- without an offset
line_joined-no_offset : (h x c y e : List ℕ) → h ++ (x ++ (c ++ (y ++ e))) ≡ h ++ x ++ c ++ y ++ [] ++ e
line_joined-no_offset h x c y e = simp append_assoc

pub line_pieces-no_offset : (dx dy off : ℤ) (x y : List ℕ) → x ≡ signed_decimal dx → y ≡ signed_decimal dy → off ≡ pos 0
    → codes "line(" ++ (x ++ (codes "," ++ (y ++ codes ")"))) ≡ line_text dx dy off
line_pieces-no_offset dx dy off x y p q zero = rw (p, q, zero) (line_joined-no_offset (codes "line(") (signed_decimal dx) (codes ",") (signed_decimal dy) (codes ")"))

-- behind its kind the numbers of a form stand behind a space each
pub form_pieces : (f : Form) → kind_text f ++ flat_map spaced (numbers_of f) ≡ form_text f
form_pieces (Line dx dy off i j) = sym (append_assoc (line_text dx dy off) (codes " ") (join_by decimal (codes " ") (i ∷ j ∷ [])))
form_pieces (Turn i j k) = sym (append_assoc (codes "turn") (codes " ") (join_by decimal (codes " ") (i ∷ j ∷ k ∷ [])))
form_pieces (Slope i j k l) = sym (append_assoc (codes "slope") (codes " ") (join_by decimal (codes " ") (i ∷ j ∷ k ∷ l ∷ [])))
form_pieces (Dist i j k l) = sym (append_assoc (codes "dist") (codes " ") (join_by decimal (codes " ") (i ∷ j ∷ k ∷ l ∷ [])))

failure_joined : (h m b s c p f x y e : List ℕ)
    → h ++ (m ++ ((b ++ s ++ c ++ p ++ b) ++ (f ++ (b ++ x ++ b ++ y ++ e)))) ≡ h ++ m ++ b ++ (s ++ c ++ p) ++ b ++ f ++ b ++ x ++ b ++ y ++ e
failure_joined h m b s c p f x y e = simp append_assoc

-- what stands behind the moment, in three pieces
abbrev pub owner_of : Failure → List ℕ
owner_of f = owner_piece f.was.structure f.was.placed.part

abbrev pub form_of : Failure → List ℕ
form_of f = form_text f.was.placed.fact.form

abbrev pub signs_of : Failure → List ℕ
signs_of f = signs_piece f.was.placed.fact.sign f.now

abbrev pub behind_moment : Failure → List ℕ
behind_moment f = owner_of f ++ (form_of f ++ signs_of f)

pub failure_pieces : (m : Moment) (f : Failure) → codes "! " ++ (moment_text m ++ behind_moment f) ≡ failure_line m f
failure_pieces m f =
    failure_joined (codes "! ") (moment_text m) (codes " ") (decimal f.was.structure) (codes "/") (decimal f.was.placed.part) (form_text f.was.placed.fact.form)
    (sign_text f.was.placed.fact.sign) (sign_text f.now) (codes "\n")
