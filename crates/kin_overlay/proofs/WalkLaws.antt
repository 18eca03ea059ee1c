-- The walk gives the merged chain.
use Rattle.std.proofs.Common.{◌≡◌, refl, sym, ap, ap₂, ◌∙◌, subst, arith, List, [], ◌∷◌, ◌++◌, ℕ, suc, ◌+◌, ◌-◌, ◌<◌, Bool, true, false, not, ◌&&◌, cond, length, drop, Option, Some, None, option_map}
use Rattle.std.specs.Prelude.{flat_map, unwrap_or, slice_get, option_to_list}
use Rattle.std.proofs.Math.Numerals.{add-one}
use Rattle.std.proofs.Math.Seq.{drop-cons}
use Rattle.std.proofs.lemmas.Option.{slice_get_within, get_or_from_slice_get}
use Rattle.std.proofs.lemmas.List.{append-nil, append_assoc}
use Rattle.kin_algebra.specs.declared.sign.Sign.{Sign}
use Rattle.kin_algebra.specs.declared.sign.Sign.TheVariants.{Minus, Zero, Plus}
use Rattle.kin_algebra.specs.Signs.{opposite_of, first_of as first_sign}
use Rattle.kin_motion.specs.declared.form.Form.TheVariants.{Turn}
use Rattle.kin_motion.specs.Scene.{Scene, x_sign, y_sign}
use Rattle.kin_motion.specs.Chains.{is_zero}
use Rattle.kin_motion.specs.Merges.{Half.{A, B}, Half, Breakpoint, is_of, own_of, breakpoints_of, slope_form, other_current, current_after, last_of, IsInterleaving}
use Rattle.kin_motion.specs.Cells.{Cell, above_at, above_left, above_right, is_narrow, cells_from, given_by, is_last, changes_of, merged_chain}
use Rattle.kin_overlay.specs.declared.record.Record.{Record}
use Rattle.kin_overlay.specs.declared.record.Next.{Next}
use Rattle.kin_overlay.specs.declared.end.End.{End}
use Rattle.kin_overlay.specs.declared.walk.Cell.{Cell as Step}
use Rattle.kin_overlay.specs.Lists.{first_of, front, behind}
use Rattle.kin_overlay.specs.Remembered.{Remembered, place_of, breakpoints}
use Rattle.kin_overlay.specs.Fingers.{seen_next, next_for, IsNoted, AreNoted, IsMerged, end_at, right_end}
use Rattle.kin_overlay.specs.Walks.{above_by, is_narrow_to, higher_by, left_above, right_above, last_item, seen_cell, cell_behind}
use Rattle.kin_overlay.proofs.FingerLaws.{first-shape}
use Rattle.kin_overlay.proofs.FingerLaws.{single}

-- ---- lists without repetitions
pub last_item-push : (xs : List ℕ) (x : ℕ) → last_item (xs ++ x ∷ []) ≡ Some x
last_item-push [] x = refl
last_item-push (y ∷ []) x = refl
last_item-push (y ∷ z ∷ ys) x = last_item-push (z ∷ ys) x

-- the last item is that at the last place
pub last-get : (xs : List ℕ) → last_item xs ≡ slice_get xs (length xs - 1)
last-get [] = refl
last-get (x ∷ []) = refl
last-get (x ∷ y ∷ ys) = last-get (y ∷ ys) ∙ sym (ap (λ (n : ℕ). slice_get (x ∷ y ∷ ys) n) places)
  where
    places : length (x ∷ y ∷ ys) - 1 ≡ suc (length (y ∷ ys) - 1)
    places = omega arith

-- a point that is the last one already isn't given
pub give-kept : (c : List ℕ) (n : ℕ) (o : Option ℕ) → o ≡ Some n → is_last (last_item c) n ≡ true → c ≡ c ++ changes_of (last_item c) (option_to_list o)
give-kept c n o q t = sym (ap (λ (p : Option ℕ). c ++ changes_of (last_item c) (option_to_list p)) q ∙ ap (λ (b : Bool). c ++ cond b [] (n ∷ [])) t ∙ append-nil c)

pub give-pushed : (c d : List ℕ) (n : ℕ) (o : Option ℕ) → o ≡ Some n → is_last (last_item c) n ≡ false → d ≡ c ++ n ∷ [] → d ≡ c ++ changes_of (last_item c) (option_to_list o)
give-pushed c d n o q t e = e ∙ sym (ap (λ (p : Option ℕ). c ++ changes_of (last_item c) (option_to_list p)) q ∙ ap (λ (b : Bool). c ++ cond b [] (n ∷ [])) t)

-- what is left behind a place
pub left-at : (rs : List Record) (n : ℕ) (r : Record) → slice_get rs n ≡ Some r → drop n rs ≡ r ∷ drop (n + 1) rs
left-at rs n r e =
    drop-cons rs n r (slice_get_within rs n r e) ∙ ap₂ (λ (q : Record) (qs : List Record). q ∷ qs) (get_or_from_slice_get rs n r r e) (ap (λ (m : ℕ). drop m rs) (sym (add-one n)))

-- what is given after other things
pub changes-append : (c xs ys : List ℕ) → changes_of (last_item c) (xs ++ ys) ≡ changes_of (last_item c) xs ++ changes_of (last_item (c ++ changes_of (last_item c) xs)) ys
changes-append c [] ys = ap (λ (l : List ℕ). changes_of (last_item l) ys) (sym (append-nil c))
changes-append c (p ∷ ps) ys = at (is_last (last_item c) p) refl (changes-append c ps ys) (changes-append (c ++ p ∷ []) ps ys)
  where
    at : (b : Bool) → is_last (last_item c) p ≡ b
        → changes_of (last_item c) (ps ++ ys) ≡ changes_of (last_item c) ps ++ changes_of (last_item (c ++ changes_of (last_item c) ps)) ys
        → changes_of (last_item (c ++ p ∷ [])) (ps ++ ys) ≡ changes_of (last_item (c ++ p ∷ [])) ps ++ changes_of (last_item ((c ++ p ∷ []) ++ changes_of (last_item (c ++ p ∷ [])) ps)) ys
        → changes_of (last_item c) ((p ∷ ps) ++ ys) ≡ changes_of (last_item c) (p ∷ ps) ++ changes_of (last_item (c ++ changes_of (last_item c) (p ∷ ps))) ys
    at true e same new =
        let gone : (l : List ℕ) → changes_of (last_item c) (p ∷ l) ≡ changes_of (last_item c) l = λ l. ap (λ (b : Bool). cond b (changes_of (last_item c) l) (p ∷ changes_of (Some p) l)) e in
        gone (ps ++ ys) ∙ same ∙ sym (ap (λ (l : List ℕ). l ++ changes_of (last_item (c ++ l)) ys) (gone ps))
    at false e same new =
        let kept : (l : List ℕ) → changes_of (last_item c) (p ∷ l) ≡ p ∷ changes_of (Some p) l = λ l. ap (λ (b : Bool). cond b (changes_of (last_item c) l) (p ∷ changes_of (Some p) l)) e in
        let pushed = last_item-push c p in
        let new' : changes_of (Some p) (ps ++ ys) ≡ changes_of (Some p) ps ++ changes_of (last_item ((c ++ p ∷ []) ++ changes_of (Some p) ps)) ys =
        subst (λ (o : Option ℕ). changes_of o (ps ++ ys) ≡ changes_of o ps ++ changes_of (last_item ((c ++ p ∷ []) ++ changes_of o ps)) ys) pushed new in
        kept (ps ++ ys) ∙ ap (λ (l : List ℕ). p ∷ l) (new' ∙ ap (λ (l : List ℕ). changes_of (Some p) ps ++ changes_of (last_item l) ys) (append_assoc c (p ∷ []) (changes_of (Some p) ps)))
        ∙ sym (ap (λ (l : List ℕ). l ++ changes_of (last_item (c ++ l)) ys) (kept ps))

-- a chain after one more gift
pub given-more : (c d xs ys : List ℕ) → d ≡ c ++ changes_of (last_item c) xs → c ++ changes_of (last_item c) (xs ++ ys) ≡ d ++ changes_of (last_item d) ys
given-more c d xs ys e =
    ap (λ (l : List ℕ). c ++ l) (changes-append c xs ys) ∙ sym (append_assoc c (changes_of (last_item c) xs) (changes_of (last_item (c ++ changes_of (last_item c) xs)) ys))
    ∙ sym (ap (λ (l : List ℕ). l ++ changes_of (last_item l) ys) e)

-- ---- the ends
pub left-is : (s : Scene) (a b : ℕ) → left_above (end_at s a b) ≡ above_left s a b
left-is s a b = at (x_sign s a b)
  where
    at : (t : Sign) → first_sign t (higher_by (cond (is_zero t) (Some (y_sign s a b)) None)) ≡ first_sign t (opposite_of (y_sign s a b))
    at Minus = refl
    at Zero = refl
    at Plus = refl

pub right-is : (s : Scene) (a b : ℕ) → right_above (end_at s a b) ≡ above_right s a b
right-is s a b = at (x_sign s a b)
  where
    at : (t : Sign) → first_sign (opposite_of t) (higher_by (cond (is_zero t) (Some (y_sign s a b)) None)) ≡ first_sign (opposite_of t) (opposite_of (y_sign s a b))
    at Minus = refl
    at Zero = refl
    at Plus = refl

-- ---- the cells
-- the narrow cell before what comes next
abbrev pub narrow_for : Scene → Option Breakpoint → Option Breakpoint → Bool
narrow_for s before None = false
narrow_for s before (Some e) = is_narrow s before e

narrow-is : (s : Scene) (d : Breakpoint) (f : Option Breakpoint) (n : Option Next) → option_map seen_next n ≡ next_for s d f → is_narrow_to n ≡ narrow_for s (Some d) f
narrow-is s d None None q = refl
narrow-is s d None (Some n) q = absurd cc
narrow-is s d (Some e) n q = at (is_of d.half e.half) refl n q
  where
    at : (b : Bool) → is_of d.half e.half ≡ b → (n : Option Next) → option_map seen_next n ≡ cond (is_of d.half e.half) None (Some (e, s.sign (slope_form d e))) → is_narrow_to n ≡ not (is_of d.half e.half) && is_zero (s.sign (slope_form d e))
    at true same n q = with-none n (q ∙ ap (λ (b : Bool). cond b None (Some (e, s.sign (slope_form d e)))) same) ∙ sym (ap (λ (b : Bool). not b && is_zero (s.sign (slope_form d e))) same)
      where
        with-none : (n : Option Next) → option_map seen_next n ≡ None → is_narrow_to n ≡ false
        with-none None r = refl
        with-none (Some m) r = absurd cc
    at false apart n q = with-some n (q ∙ ap (λ (b : Bool). cond b None (Some (e, s.sign (slope_form d e)))) apart) ∙ sym (ap (λ (b : Bool). not b && is_zero (s.sign (slope_form d e))) apart)
      where
        with-some : (n : Option Next) → option_map seen_next n ≡ Some (e, s.sign (slope_form d e)) → is_narrow_to n ≡ is_zero (s.sign (slope_form d e))
        with-some None r = absurd cc
        with-some (Some m) r = let same : seen_next m ≡ (e, s.sign (slope_form d e)) = cc in ap (λ (p : Breakpoint × Sign). is_zero p.1) same

above-is : (s : Scene) (a b : ℕ) (r : Record) (f : Option Breakpoint) → IsNoted s a b r f → above_by r ≡ above_at s a b (place_of r)
above-is s a b r f n = at (place_of r).half refl
  where
    at : (h : Half) → (place_of r).half ≡ h → above_by r ≡ above_at s a b (place_of r)
    at A q =
        let point : r.across ≡ b = n.across ∙ ap (λ (h : Half). other_current h a b) q in
        ap (λ (h : Half). cond (is_of A h) (opposite_of r.turn) r.turn) q ∙ ap opposite_of (n.turn ∙ ap (λ (k : ℕ). s.sign (Turn r.at.left r.at.right k)) point)
        ∙ sym (ap (λ (h : Half). cond (is_of A h) (opposite_of (s.sign (Turn r.at.left r.at.right b))) (s.sign (Turn r.at.left r.at.right a))) q)
    at B q =
        let point : r.across ≡ a = n.across ∙ ap (λ (h : Half). other_current h a b) q in
        ap (λ (h : Half). cond (is_of A h) (opposite_of r.turn) r.turn) q ∙ n.turn ∙ ap (λ (k : ℕ). s.sign (Turn r.at.left r.at.right k)) point
        ∙ sym (ap (λ (h : Half). cond (is_of A h) (opposite_of (s.sign (Turn r.at.left r.at.right b))) (s.sign (Turn r.at.left r.at.right a))) q)

-- ---- on the way: the cell that comes next, what was given, and what is left of the list and of both chains
pub record IsWalking (s : Scene) (total : List ℕ) (la lb : ℕ) (c : Step) (chain : List ℕ) (rs : List Record) : Type 0 where
  pub before : Option Breakpoint
  pub xa : List ℕ
  pub xb : List ℕ
  pub a_some : 0 < length xa
  pub b_some : 0 < length xb
  pub a_is : front xa ≡ c.a
  pub b_is : front xb ≡ c.b
  pub a_last : last_of (front xa) (behind xa) ≡ la
  pub b_last : last_of (front xb) (behind xb) ≡ lb
  pub interleaved : IsInterleaving xa xb (breakpoints rs)
  pub noted : AreNoted s c.a c.b rs
  pub narrow : c.is_narrow ≡ narrow_for s before (first_of (breakpoints rs))
  pub walked : chain ++ changes_of (last_item chain) (flat_map given_by (cells_from s before c.left c.a c.b (breakpoints rs))) ≡ total

pub walking : (s : Scene) (a b : List ℕ) (m : Remembered) (e : End) → 0 < length a → 0 < length b → IsMerged s a b m → m.left ≡ Some e
    → IsWalking s (merged_chain s a b (breakpoints m.records)) (last_of (front a) (behind a)) (last_of (front b) (behind b))
    (record { a = e.a; b = e.b; left = left_above e; right = Zero; is_narrow = false }) [] m.records
walking s [] b m e a_some b_some w q = absurd (omega arith)
walking s (x ∷ as') [] m e a_some b_some w q = absurd (omega arith)
walking s (x ∷ as') (y ∷ bs) m e a_some b_some w q =
    let is : end_at s x y ≡ e = (let both : Some (end_at s x y) ≡ Some e = sym w.left ∙ q in cc) in
    subst (λ (f : End). IsWalking s (merged_chain s (x ∷ as') (y ∷ bs) (breakpoints m.records)) (last_of x as') (last_of y bs) (record { a = f.a; b = f.b; left = left_above f; right = Zero; is_narrow = false }) [] m.records) is
    (record {
      before = None;
      xa = x ∷ as';
      xb = y ∷ bs;
      a_some = a_some;
      b_some = b_some;
      a_is = refl;
      b_is = refl;
      a_last = refl;
      b_last = refl;
      interleaved = w.interleaved;
      noted = w.noted;
      narrow = plain (first_of (breakpoints m.records));
      walked = ap (λ (t : Sign). changes_of None (flat_map given_by (cells_from s None t x y (breakpoints m.records)))) (left-is s x y);
    })
  where
    plain : (f : Option Breakpoint) → false ≡ narrow_for s None f
    plain None = refl
    plain (Some f) = refl

module _ (s : Scene) (total : List ℕ) (la lb : ℕ) (c : Step) (chain chain' : List ℕ) (r : Record) (rs : List Record) (given : chain' ≡ chain ++ changes_of (last_item chain) (given_by (seen_cell (record c { right = above_by r })))) where
  abbrev e : Breakpoint
  e = place_of r

  -- what is left of a chain behind the breakpoint
  half-left : (h : Half) (x last : ℕ) (xs : List ℕ) → own_of h (breakpoints (r ∷ rs)) ≡ breakpoints_of h xs → 0 < length xs → front xs ≡ x → last_of (front xs) (behind xs) ≡ last
      → (ys : List ℕ) × (0 < length ys) × (front ys ≡ current_after h e x) × (last_of (front ys) (behind ys) ≡ last) × (own_of h (breakpoints rs) ≡ breakpoints_of h ys)
  half-left h x last xs own some is ends = at (is_of h e.half) refl
    where
      at : (b : Bool) → is_of h e.half ≡ b → (ys : List ℕ) × (0 < length ys) × (front ys ≡ current_after h e x) × (last_of (front ys) (behind ys) ≡ last) × (own_of h (breakpoints rs) ≡ breakpoints_of h ys)
      at false q = (
        xs,
        some,
        is ∙ sym (ap (λ (b : Bool). cond b e.right x) q),
        ends,
        sym (ap (λ (b : Bool). cond b (e ∷ own_of h (breakpoints rs)) (own_of h (breakpoints rs))) q) ∙ own,
      )
      at true q =
          let own' : e ∷ own_of h (breakpoints rs) ≡ breakpoints_of h xs = sym (ap (λ (b : Bool). cond b (e ∷ own_of h (breakpoints rs)) (own_of h (breakpoints rs))) q) ∙ own in
          let shape = first-shape h xs e (sym (ap (λ (es : List Breakpoint). first_of es) own')) in
          let tail : e ∷ own_of h (breakpoints rs) ≡ record { half = h; left = e.left; right = e.right } ∷ breakpoints_of h (e.right ∷ shape.0) = own' ∙ ap (breakpoints_of h) shape.1 in (
            e.right ∷ shape.0,
            omega arith,
            sym (ap (λ (b : Bool). cond b e.right x) q),
            sym (ap (λ (l : List ℕ). last_of (front l) (behind l)) shape.1) ∙ ends,
            (let rest : own_of h (breakpoints rs) ≡ breakpoints_of h (e.right ∷ shape.0) = cc in rest),
          )

  pub walk-on : IsWalking s total la lb c chain (r ∷ rs) → IsWalking s total la lb (cell_behind c r) chain' rs
  walk-on w =
      let left-a = half-left A c.a la w.xa w.interleaved.of_a w.a_some w.a_is w.a_last in
      let left-b = half-left B c.b lb w.xb w.interleaved.of_b w.b_some w.b_is w.b_last in
      let above = above-is s c.a c.b r (first_of (breakpoints rs)) w.noted.0 in
      let cell : Cell = record { a = c.a; b = c.b; left = c.left; right = above_at s c.a c.b e; narrow = is_narrow s w.before e } in
      let same : seen_cell (record c { right = above_by r }) ≡ cell = ap₂ (λ (t : Sign) (b : Bool). record { a = c.a; b = c.b; left = c.left; right = t; narrow = b }) above w.narrow in
      let rest = flat_map given_by (cells_from s (Some e) (above_at s c.a c.b e) (current_after A e c.a) (current_after B e c.b) (breakpoints rs)) in
      let more = given-more chain chain' (given_by cell) rest (given ∙ ap (λ (d : Cell). chain ++ changes_of (last_item chain) (given_by d)) same) in
      record {
        before = Some e;
        xa = left-a.0;
        xb = left-b.0;
        a_some = left-a.1;
        b_some = left-b.1;
        a_is = left-a.2;
        b_is = left-b.2;
        a_last = left-a.3;
        b_last = left-b.3;
        interleaved = record { of_a = left-a.4; of_b = left-b.4 };
        noted = w.noted.1;
        narrow = narrow-is s e (first_of (breakpoints rs)) r.next w.noted.0.next;
        walked = ap (λ (t : Sign). chain' ++ changes_of (last_item chain') (flat_map given_by (cells_from s (Some e) t (current_after A e c.a) (current_after B e c.b) (breakpoints rs)))) above ∙ sym more ∙ w.walked;
      }

-- the last cell
pub walked-all : (s : Scene) (total : List ℕ) (la lb : ℕ) (c : Step) (chain chain' : List ℕ) (end : End) → end ≡ end_at s la lb
    → chain' ≡ chain ++ changes_of (last_item chain) (given_by (seen_cell (record c { right = right_above end }))) → IsWalking s total la lb c chain [] → chain' ≡ total
walked-all s total la lb c chain chain' end is given w =
    let ea : la ≡ c.a = sym w.a_last ∙ ap (λ (l : List ℕ). last_of (front w.xa) l) (single A w.xa w.a_some (sym w.interleaved.of_a)) ∙ w.a_is in
    let eb : lb ≡ c.b = sym w.b_last ∙ ap (λ (l : List ℕ). last_of (front w.xb) l) (single B w.xb w.b_some (sym w.interleaved.of_b)) ∙ w.b_is in
    let right : right_above end ≡ above_right s c.a c.b = ap right_above is ∙ right-is s la lb ∙ ap₂ (λ (x y : ℕ). above_right s x y) ea eb in
    let cell : Cell = record { a = c.a; b = c.b; left = c.left; right = above_right s c.a c.b; narrow = false } in
    let same : seen_cell (record c { right = right_above end }) ≡ cell = ap₂ (λ (t : Sign) (b : Bool). record { a = c.a; b = c.b; left = c.left; right = t; narrow = b }) right w.narrow in
    given ∙ ap (λ (d : Cell). chain ++ changes_of (last_item chain) (given_by d)) same ∙ ap (λ (l : List ℕ). chain ++ changes_of (last_item chain) l) (sym (append-nil (given_by cell))) ∙ w.walked

-- the right end, also where it is the left one
pub right-of : (s : Scene) (a b : List ℕ) (m : Remembered) (e : End) → IsMerged s a b m → m.left ≡ Some e → (o : Option End) → o ≡ m.right → unwrap_or o e ≡ end_at s (last_of (front a) (behind a)) (last_of (front b) (behind b))
right-of s a b m e w q o p = at (behind a) (behind b) o (p ∙ w.right)
  where
    left : e ≡ end_at s (front a) (front b)
    left = let both : Some e ≡ Some (end_at s (front a) (front b)) = sym q ∙ w.left in cc

    at : (xs ys : List ℕ) (o : Option End) → o ≡ right_end s (front a) xs (front b) ys → unwrap_or o e ≡ end_at s (last_of (front a) xs) (last_of (front b) ys)
    at [] [] o r = ap (λ (x : Option End). unwrap_or x e) r ∙ left
    at [] (y ∷ ys) o r = ap (λ (x : Option End). unwrap_or x e) r
    at (x ∷ xs) ys o r = ap (λ (x : Option End). unwrap_or x e) r
