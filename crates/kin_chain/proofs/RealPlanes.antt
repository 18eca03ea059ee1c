-- A real scene shows points at fixed places over an ordered ring: those at one number, where every form has its sign.
use Rattle.std.proofs.Common.{◌≡◌, ◌⊎◌, inl, inr, sym, ap, ap₂, ◌∙◌, subst, List, [], ◌∷◌, ◌++◌, map, ℕ, zero, suc}
use Rattle.std.specs.Prelude.{pos, Option, None, Contains, flat_map}
use Rattle.std.proofs.lemmas.List.Elements.{Contains-append_left, Contains-append_right}
use Rattle.kin_algebra.proofs.Members.{contains_none, contains_head, contains_tail, contains_cases}
use Rattle.kin_algebra.proofs.OrderedRings.{OrderedRing}
use Rattle.kin_algebra.proofs.Pairs.{Pair}
use Rattle.kin_num.specs.Quadratic.{Quadratic, quadratic_sum}
use Rattle.kin_num.specs.Instants.{sign_at_number}
use Rattle.kin_num.proofs.NumberRing.{ring_over}
use Rattle.kin_motion.specs.declared.form.Form.{Form}
use Rattle.kin_motion.specs.declared.form.Form.TheVariants.{Line, Turn, Slope, Dist}
use Rattle.kin_motion.specs.Course.{Course, motion_of}
use Rattle.kin_motion.specs.Forms.{Linear, minus, product, difference, along, x_of_course, y_of_course, x_of, y_of, x_step, y_step, polynomial_of, sign_of_form}
use Rattle.kin_motion.specs.Scene.{Scene, IsReal, x_sign, y_sign}
use Rattle.kin_motion.proofs.SetLaws.{contains_map}
use Rattle.kin_motion.proofs.SeenLaws.{SeenAt, seen_at}
use Rattle.kin_motion.proofs.DistanceValues.{square, distance_sign}
use Rattle.kin_motion.proofs.LineValues.{line_value, line_value-minus, x_sign-value, y_sign-value, products-value}
use Rattle.kin_chain.proofs.Comparisons.{way}
use Rattle.kin_algebra.proofs.Vectors.{cross}
use Rattle.kin_chain.proofs.Planes.{Places, Shows, step, height, rise, fall}

-- ---- one list of all polynomials
contains_flat : {A B : Type 0} (f : A → List B) (xs : List A) (x : A) (z : B) → Contains xs x → Contains (f x) z → Contains (flat_map f xs) z
contains_flat {A} {B} f [] x z c k = absurd (contains_none x c)
contains_flat {A} {B} f (y ∷ ys) x z c k = at (contains_cases y x ys c) (λ l. contains_flat f ys x z l k)
  where
    at : (y ≡ x) ⊎ Contains ys x → (Contains ys x → Contains (flat_map f ys) z) → Contains (f y ++ flat_map f ys) z
    at (inl e) rest = Contains-append_left (f y) (flat_map f ys) z (subst (λ (v : A). Contains (f v) z) (sym e) k)
    at (inr l) rest = Contains-append_right (f y) (flat_map f ys) z (rest l)

-- a motion, or none
abbrev Motion : Type 0
Motion = Option Course

two : (Motion → Motion → Quadratic) → List Motion → List Quadratic
two f cs = flat_map (λ c. map (f c) cs) cs

three : (Motion → Motion → Motion → Quadratic) → List Motion → List Quadratic
three f cs = flat_map (λ c. flat_map (λ d. map (f c d) cs) cs) cs

four : (Motion → Motion → Motion → Motion → Quadratic) → List Motion → List Quadratic
four f cs = flat_map (λ c. flat_map (λ d. flat_map (λ e. map (f c d e) cs) cs) cs) cs

in_two : (f : Motion → Motion → Quadratic) (cs : List Motion) (c d : Motion) → Contains cs c → Contains cs d → Contains (two f cs) (f c d)
unfolding two
in_two f cs c d i j = contains_flat (λ c. map (f c) cs) cs c (f c d) i (contains_map (f c) cs d j)

in_three : (f : Motion → Motion → Motion → Quadratic) (cs : List Motion) (c d e : Motion) → Contains cs c → Contains cs d → Contains cs e → Contains (three f cs) (f c d e)
unfolding three
in_three f cs c d e i j k =
    contains_flat (λ c. flat_map (λ d. map (f c d) cs) cs) cs c (f c d e) i (contains_flat (λ d. map (f c d) cs) cs d (f c d e) j (contains_map (f c d) cs e k))

in_four : (f : Motion → Motion → Motion → Motion → Quadratic) (cs : List Motion) (c d e g : Motion) → Contains cs c → Contains cs d → Contains cs e → Contains cs g → Contains (four f cs) (f c d e g)
unfolding four
in_four f cs c d e g i j k l =
    contains_flat (λ c. flat_map (λ d. flat_map (λ e. map (f c d e) cs) cs) cs) cs c (f c d e g) i
    (contains_flat (λ d. flat_map (λ e. map (f c d e) cs) cs) cs d (f c d e g) j
    (contains_flat (λ e. map (f c d e) cs) cs e (f c d e g) k (contains_map (f c d e) cs g l)))

-- the steps of two motions
abbrev x_between : Motion → Motion → Linear
x_between c d = minus (x_of_course d) (x_of_course c)

abbrev y_between : Motion → Motion → Linear
y_between c d = minus (y_of_course d) (y_of_course c)

abbrev x_line : Motion → Motion → Quadratic
x_line c d = along (pos 1) (pos 0) (pos 0) (x_between c d) (y_between c d)

abbrev y_line : Motion → Motion → Quadratic
y_line c d = along (pos 0) (pos 1) (pos 0) (x_between c d) (y_between c d)

abbrev turn : Motion → Motion → Motion → Quadratic
turn c d e = difference (product (x_between c d) (y_between c e)) (product (y_between c d) (x_between c e))

abbrev slope : Motion → Motion → Motion → Motion → Quadratic
slope c d e f = difference (product (y_between c d) (x_between e f)) (product (y_between e f) (x_between c d))

abbrev square_between : Motion → Motion → Quadratic
square_between c d = quadratic_sum (product (x_between c d) (x_between c d)) (product (y_between c d) (y_between c d))

abbrev distance : Motion → Motion → Motion → Motion → Quadratic
distance c d e f = difference (square_between e f) (square_between c d)

pub all_of : List Motion → List Quadratic
all_of cs = two x_line cs ++ (two y_line cs ++ (three turn cs ++ (four slope cs ++ four distance cs)))

-- every number has a motion of the list, or none
motion_in : (ms : List Motion) (i : ℕ) → Contains (None ∷ ms) (motion_of ms i)
motion_in [] i = contains_head None []
motion_in (c ∷ ms) zero = contains_tail None c (c ∷ ms) (contains_head c ms)
motion_in (c ∷ ms) (suc i) = at (contains_cases None (motion_of ms i) ms (motion_in ms i))
  where
    at : (None ≡ motion_of ms i) ⊎ Contains ms (motion_of ms i) → Contains (None ∷ c ∷ ms) (motion_of ms i)
    at (inl e) = subst (λ (v : Motion). Contains (None ∷ c ∷ ms) v) e (contains_head None (c ∷ ms))
    at (inr k) = contains_tail None (motion_of ms i) (c ∷ ms) (contains_tail c (motion_of ms i) ms k)

module _ (s : Scene) (r : IsReal s) where
  abbrev ms : List Motion
  ms = r.motions

  abbrev cs : List Motion
  cs = None ∷ r.motions

  pub seen : SeenAt r.moment (all_of cs)
  seen = seen_at r.moment (all_of cs) r.canonical

  abbrev pub here : OrderedRing Pair
  here = ring_over (seen).number.radicand (seen).sound

  abbrev pub places : Places here
  places = record { x = λ i. line_value (x_of ms i) (seen).number; y = λ i. line_value (y_of ms i) (seen).number }

  sign_here : (f : Form) → Contains (all_of cs) (polynomial_of ms f) → s.sign f ≡ sign_at_number (polynomial_of ms f) (seen).number
  unfolding sign_of_form
  sign_here f c = r.sign f ∙ (seen).each (polynomial_of ms f) c

  x_way : (i j : ℕ) → line_value (x_step ms i j) (seen).number ≡ way here places.x i j
  x_way i j = line_value-minus (x_of ms j) (x_of ms i) (seen).number

  y_way : (i j : ℕ) → line_value (y_step ms i j) (seen).number ≡ way here places.y i j
  y_way i j = line_value-minus (y_of ms j) (y_of ms i) (seen).number

  x_here : (i j : ℕ) → x_sign s i j ≡ here.sign (way here places.x i j)
  unfolding polynomial_of all_of
  x_here i j =
      sign_here (Line (pos 1) (pos 0) (pos 0) i j) (Contains-append_left (two x_line cs) _ _ (in_two x_line cs (motion_of ms i) (motion_of ms j) (motion_in ms i) (motion_in ms j)))
      ∙ x_sign-value (seen).number (seen).sound (seen).positive (x_step ms i j) (y_step ms i j) ∙ ap here.sign (x_way i j)

  y_here : (i j : ℕ) → y_sign s i j ≡ here.sign (way here places.y i j)
  unfolding polynomial_of all_of
  y_here i j =
      sign_here (Line (pos 0) (pos 1) (pos 0) i j)
      (Contains-append_right (two x_line cs) _ _ (Contains-append_left (two y_line cs) _ _ (in_two y_line cs (motion_of ms i) (motion_of ms j) (motion_in ms i) (motion_in ms j))))
      ∙ y_sign-value (seen).number (seen).sound (seen).positive (x_step ms i j) (y_step ms i j) ∙ ap here.sign (y_way i j)

  -- a difference of products of steps
  abbrev mixed : Pair → Pair → Pair → Pair → Pair
  mixed a b c e = here.ring.plus (here.ring.times a b) (here.ring.negative (here.ring.times c e))

  same_mixed : {a b c e a' b' c' e' : Pair} → a ≡ a' → b ≡ b' → c ≡ c' → e ≡ e' → mixed a b c e ≡ mixed a' b' c' e'
  same_mixed {a} {b} {c} {e} {a'} {b'} {c'} {e'} p q u v = ap₂ here.ring.plus (ap₂ here.ring.times p q) (ap here.ring.negative (ap₂ here.ring.times u v))

  turn_here : (i j k : ℕ) → s.sign (Turn i j k) ≡ here.sign (way here (height here places (step here places i j)) i k)
  unfolding polynomial_of all_of cross
  turn_here i j k =
      sign_here (Turn i j k)
      (Contains-append_right (two x_line cs) _ _ (Contains-append_right (two y_line cs) _ _ (Contains-append_left (three turn cs) _ _
      (in_three turn cs (motion_of ms i) (motion_of ms j) (motion_of ms k) (motion_in ms i) (motion_in ms j) (motion_in ms k)))))
      ∙ products-value (seen).number (seen).sound (seen).positive (x_step ms i j) (y_step ms i k) (y_step ms i j) (x_step ms i k)
      ∙ ap here.sign (same_mixed (x_way i j) (y_way i k) (y_way i j) (x_way i k) ∙ sym (rise here places (step here places i j) i k))

  slope_here : (i j k l : ℕ) → s.sign (Slope i j k l) ≡ here.sign (way here (height here places (step here places i j)) l k)
  unfolding polynomial_of all_of cross
  slope_here i j k l =
      sign_here (Slope i j k l)
      (Contains-append_right (two x_line cs) _ _ (Contains-append_right (two y_line cs) _ _ (Contains-append_right (three turn cs) _ _ (Contains-append_left (four slope cs) _ _
      (in_four slope cs (motion_of ms i) (motion_of ms j) (motion_of ms k) (motion_of ms l) (motion_in ms i) (motion_in ms j) (motion_in ms k) (motion_in ms l))))))
      ∙ products-value (seen).number (seen).sound (seen).positive (y_step ms i j) (x_step ms k l) (y_step ms k l) (x_step ms i j)
      ∙ ap here.sign (same_mixed (y_way i j) (x_way k l) (y_way k l) (x_way i j)
      ∙ ap (λ (z : Pair). here.ring.plus z (here.ring.negative (here.ring.times (way here places.y k l) (way here places.x i j)))) (here.ring.times_comm (way here places.y i j) (way here places.x k l))
      ∙ sym (fall here places (step here places i j) k l))

  square_here : (i j : ℕ) → square here (record { x = line_value (x_step ms i j) (seen).number; y = line_value (y_step ms i j) (seen).number }) ≡ square here (step here places i j)
  square_here i j = ap₂ here.ring.plus (ap₂ here.ring.times (x_way i j) (x_way i j)) (ap₂ here.ring.times (y_way i j) (y_way i j))

  distance_here : (i j k l : ℕ) → s.sign (Dist i j k l) ≡ here.sign (here.ring.plus (square here (step here places k l)) (here.ring.negative (square here (step here places i j))))
  unfolding polynomial_of all_of
  distance_here i j k l =
      sign_here (Dist i j k l)
      (Contains-append_right (two x_line cs) _ _ (Contains-append_right (two y_line cs) _ _ (Contains-append_right (three turn cs) _ _ (Contains-append_right (four slope cs) _ _
      (in_four distance cs (motion_of ms i) (motion_of ms j) (motion_of ms k) (motion_of ms l) (motion_in ms i) (motion_in ms j) (motion_in ms k) (motion_in ms l))))))
      ∙ distance_sign (seen).number (seen).sound (seen).positive (x_step ms i j) (y_step ms i j) (x_step ms k l) (y_step ms k l)
      ∙ ap here.sign (ap₂ (λ (u v : Pair). here.ring.plus u (here.ring.negative v)) (square_here k l) (square_here i j))

  pub shown : Shows here s places
  shown = record { x_signs = x_here; y_signs = y_here; turns = turn_here; slopes = slope_here; distances = distance_here }
