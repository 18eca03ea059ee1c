-- A chain that is read off a list splits where the list does.
use Rattle.std.proofs.Common.{◌≡◌, ◌≢◌, ◌⊎◌, inl, inr, refl, sym, ap, ap₂, ◌∙◌, subst, arith, List, [], ◌∷◌, ◌++◌, ℕ, ◌+◌, ◌<◌, ◌≤◌, Bool, true, false, not, ◌&&◌, cond, length, get_or, take, drop, Option, Some, None, append_assoc}
use Rattle.std.specs.Prelude.{unwrap_or}
use Rattle.std.proofs.lemmas.Bool.{eqb-true}
use Rattle.std.proofs.lemmas.List.{append-nil, drop_more}
use Rattle.kin_algebra.specs.declared.sign.Sign.{Sign}
use Rattle.kin_algebra.specs.declared.sign.Sign.TheVariants.{Minus, Zero, Plus}
use Rattle.kin_motion.specs.Chains.{is_zero}
use Rattle.kin_motion.specs.Merges.{Half.{A, B}, Half, is_of, current_after}
use Rattle.kin_motion.specs.Cells.{above_of, given_by, is_last, changes_of}
use Rattle.kin_overlay.specs.declared.record.Record.{Record}
use Rattle.kin_overlay.specs.declared.end.End.{End}
use Rattle.kin_overlay.specs.declared.walk.Cell.{Cell as Step}
use Rattle.kin_overlay.specs.Remembered.{Remembered, place_of}
use Rattle.kin_overlay.specs.Walks.{above_by, right_above, last_item, seen_cell, cell_behind, is_before_narrow, first_cell, gifts_before, cell_after, last_gifts, gifts, chain_from, chain_read, a_before, b_before, upper_before, cell_by, IsThreaded}
use Rattle.kin_overlay.proofs.WalkLaws.{changes-append, given-more, last_item-push}

-- ---- along the records
pub after-append : (c : Step) (xs ys : List Record) → cell_after c (xs ++ ys) ≡ cell_after (cell_after c xs) ys
after-append c [] ys = refl
after-append c (x ∷ xs) ys = after-append (cell_behind c x) xs ys

pub before-append : (c : Step) (xs ys : List Record) → gifts_before c (xs ++ ys) ≡ gifts_before c xs ++ gifts_before (cell_after c xs) ys
before-append c [] ys = refl
before-append c (x ∷ xs) ys =
    let here = given_by (seen_cell (record c { right = above_by x })) in
    ap (λ (l : List ℕ). here ++ l) (before-append (cell_behind c x) xs ys) ∙ sym (append_assoc here (gifts_before (cell_behind c x) xs) (gifts_before (cell_after (cell_behind c x) xs) ys))

pub gifts-append : (c : Step) (xs ys : List Record) (right : Sign) → gifts c (xs ++ ys) right ≡ gifts_before c xs ++ gifts (cell_after c xs) ys right
gifts-append c xs ys right =
    ap₂ (λ (l : List ℕ) (d : Step). l ++ last_gifts d right) (before-append c xs ys) (after-append c xs ys)
    ∙ append_assoc (gifts_before c xs) (gifts_before (cell_after c xs) ys) (last_gifts (cell_after (cell_after c xs) ys) right)

pub threaded-append : (c : Step) (xs ys : List Record) → IsThreaded c (xs ++ ys) → IsThreaded (cell_after c xs) ys
threaded-append c [] ys t = t
threaded-append c (x ∷ xs) ys t = threaded-append (cell_behind c x) xs ys t.2

-- ---- at a record
-- the cell after it by the record alone
pub cell-by : (c : Step) (r : Record) → c.a ≡ a_before r → c.b ≡ b_before r → cell_behind c r ≡ cell_by r
cell-by c r p q = at (place_of r).half refl
  where
    at : (h : Half) → (place_of r).half ≡ h → cell_behind c r ≡ cell_by r
    at A e =
        ap₂ (λ (x y : ℕ). record { a = x; b = y; left = above_by r; right = Zero; is_narrow = is_before_narrow r })
        (ap (λ (h : Half). cond (is_of A h) r.at.right c.a) e ∙ sym (ap (λ (h : Half). cond (is_of A h) r.at.right r.across) e))
        (ap (λ (h : Half). cond (is_of B h) r.at.right c.b) e ∙ q ∙ ap (λ (h : Half). cond (is_of A h) r.across r.at.left) e ∙ sym (ap (λ (h : Half). cond (is_of A h) r.across r.at.right) e))
    at B e =
        ap₂ (λ (x y : ℕ). record { a = x; b = y; left = above_by r; right = Zero; is_narrow = is_before_narrow r })
        (ap (λ (h : Half). cond (is_of A h) r.at.right c.a) e ∙ p ∙ ap (λ (h : Half). cond (is_of A h) r.at.left r.across) e ∙ sym (ap (λ (h : Half). cond (is_of A h) r.at.right r.across) e))
        (ap (λ (h : Half). cond (is_of B h) r.at.right c.b) e ∙ sym (ap (λ (h : Half). cond (is_of A h) r.across r.at.right) e))

-- where a half is above at the right end, its point is given last
pub given-last : (c : Step) (t : Sign) (p : ℕ) → above_of t c.a c.b ≡ p ∷ [] → (front : List ℕ) × (last_gifts c t ≡ front ++ p ∷ [])
given-last c t p q = (above_of c.left c.a c.b, ap (λ (l : List ℕ). (above_of c.left c.a c.b ++ l) ++ shared) q ∙ ap (λ (l : List ℕ). (above_of c.left c.a c.b ++ p ∷ []) ++ l) (none t q) ∙ append-nil (above_of c.left c.a c.b ++ p ∷ []))
  where
    shared : List ℕ
    shared = cond (is_zero c.left && is_zero t && not c.is_narrow) (c.a ∷ []) []

    either : (z n : Bool) → cond (z && false && n) (c.a ∷ []) [] ≡ []
    either true n = refl
    either false n = refl

    none : (t : Sign) → above_of t c.a c.b ≡ p ∷ [] → cond (is_zero c.left && is_zero t && not c.is_narrow) (c.a ∷ []) [] ≡ []
    none Plus q = either (is_zero c.left) (not c.is_narrow)
    none Zero q = absurd cc
    none Minus q = either (is_zero c.left) (not c.is_narrow)

-- where a half is above at the left end, its point is given first
pub given-first : (c : Step) (rs : List Record) (right : Sign) (p : ℕ) → above_of c.left c.a c.b ≡ p ∷ [] → (rest : List ℕ) × (gifts c rs right ≡ p ∷ rest)
given-first c [] right p q =
    let up = above_of right c.a c.b in
    let shared = cond (is_zero c.left && is_zero right && not c.is_narrow) (c.a ∷ []) [] in
    (up ++ shared, ap (λ (l : List ℕ). (l ++ up) ++ shared) q)
given-first c (r ∷ rs) right p q =
    let up = above_of (above_by r) c.a c.b in
    let shared = cond (is_zero c.left && is_zero (above_by r) && not c.is_narrow) (c.a ∷ []) [] in
    let more = gifts_before (cell_behind c r) rs in
    let last = last_gifts (cell_after (cell_behind c r) rs) right in
    (((up ++ shared) ++ more) ++ last, ap (λ (l : List ℕ). (((l ++ up) ++ shared) ++ more) ++ last) q)

-- ---- what is given after other things
ended-in : (d : List ℕ) (q : ℕ) → last_item d ≡ Some q → (front : List ℕ) × (d ≡ front ++ q ∷ [])
ended-in [] q e = absurd cc
ended-in (x ∷ []) q e = ([], (let same : x ≡ q = cc in ap (λ (y : ℕ). y ∷ []) same))
ended-in (x ∷ y ∷ ys) q e =
    let rest = ended-in (y ∷ ys) q e in
    (x ∷ rest.0, ap (λ (l : List ℕ). x ∷ l) rest.1)

-- what is given last is the end
pub last-given : (c xs : List ℕ) (p : ℕ) → (front : List ℕ) × (c ++ changes_of (last_item c) (xs ++ p ∷ []) ≡ front ++ p ∷ [])
last-given c xs p = at (is_last (last_item d) p) refl
  where
    d : List ℕ
    d = c ++ changes_of (last_item c) xs

    e : c ++ changes_of (last_item c) (xs ++ p ∷ []) ≡ d ++ changes_of (last_item d) (p ∷ [])
    e = given-more c d xs (p ∷ []) refl

    by : (o : Option ℕ) → last_item d ≡ o → is_last o p ≡ true → is_last (last_item d) p ≡ true → (front : List ℕ) × (c ++ changes_of (last_item c) (xs ++ p ∷ []) ≡ front ++ p ∷ [])
    by None r t q = absurd cc
    by (Some x) r t q =
        let front = ended-in d x r in
        (front.0, e ∙ ap (λ (b : Bool). d ++ cond b [] (p ∷ [])) q ∙ append-nil d ∙ front.1 ∙ ap (λ (y : ℕ). front.0 ++ y ∷ []) (eqb-true x p t))

    at : (b : Bool) → is_last (last_item d) p ≡ b → (front : List ℕ) × (c ++ changes_of (last_item c) (xs ++ p ∷ []) ≡ front ++ p ∷ [])
    at false q = (d, e ∙ ap (λ (b : Bool). d ++ cond b [] (p ∷ [])) q)
    at true q = by (last_item d) refl (ap (λ (o : Option ℕ). is_last o p) refl ∙ q) q

-- ---- the front
module _ (e : End) (m : Remembered) (xs : List Record) (r : Record) (zs : List Record) (p : ℕ) (left : m.left ≡ Some e) (is : m.records ≡ xs ++ (r ∷ zs)) (t : IsThreaded (first_cell e) m.records) (upper : upper_before r ≡ p ∷ []) where
  abbrev right : Sign
  right = right_above (unwrap_or m.right e)

  abbrev cell : Step
  cell = cell_after (first_cell e) xs

  here : IsThreaded cell (r ∷ zs)
  here = threaded-append (first_cell e) xs (r ∷ zs) (subst (IsThreaded (first_cell e)) is t)

  next : cell_behind cell r ≡ cell_by r
  next = cell-by cell r here.0 here.1

  -- what the cells up to the record give
  abbrev head : List ℕ
  head = changes_of None (gifts_before (first_cell e) (xs ++ r ∷ []))

  pub front-threaded : IsThreaded (cell_by r) zs
  front-threaded = subst (λ (c : Step). IsThreaded c zs) next here.2

  ends : (front : List ℕ) × (last_gifts cell (above_by r) ≡ front ++ p ∷ [])
  ends = given-last cell (above_by r) p (ap₂ (λ (x y : ℕ). above_of (above_by r) x y) here.0 here.1 ∙ upper)

  before : gifts_before (first_cell e) (xs ++ r ∷ []) ≡ (gifts_before (first_cell e) xs ++ ends.0) ++ p ∷ []
  before =
      before-append (first_cell e) xs (r ∷ []) ∙ ap (λ (l : List ℕ). gifts_before (first_cell e) xs ++ l) (append-nil (last_gifts cell (above_by r)) ∙ ends.1)
      ∙ sym (append_assoc (gifts_before (first_cell e) xs) ends.0 (p ∷ []))

  pub head-ends : (front : List ℕ) × (head ≡ front ++ p ∷ [])
  head-ends =
      let f = last-given [] (gifts_before (first_cell e) xs ++ ends.0) p in
      (f.0, ap (changes_of None) before ∙ f.1)

  pub front-read : (front : List ℕ) → head ≡ front ++ p ∷ [] → chain_read m ≡ front ++ (p ∷ changes_of (Some p) (gifts (cell_by r) zs right))
  front-read front f =
      let whole : gifts (first_cell e) m.records right ≡ gifts_before (first_cell e) (xs ++ r ∷ []) ++ gifts (cell_by r) zs right =
      ap (λ (l : List Record). gifts (first_cell e) l right) (is ∙ sym (append_assoc xs (r ∷ []) zs)) ∙ gifts-append (first_cell e) (xs ++ r ∷ []) zs right
      ∙ ap (λ (c : Step). gifts_before (first_cell e) (xs ++ r ∷ []) ++ gifts c zs right) (after-append (first_cell e) xs (r ∷ []) ∙ next) in
      ap (λ (o : Option End). chain_from o m) left ∙ ap (changes_of None) whole
      ∙ given-more [] head (gifts_before (first_cell e) (xs ++ r ∷ [])) (gifts (cell_by r) zs right) refl
      ∙ ap (λ (l : List ℕ). l ++ changes_of (last_item l) (gifts (cell_by r) zs right)) f
      ∙ ap (λ (o : Option ℕ). (front ++ p ∷ []) ++ changes_of o (gifts (cell_by r) zs right)) (last_item-push front p)
      ∙ append_assoc front (p ∷ []) (changes_of (Some p) (gifts (cell_by r) zs right))

-- ---- the end
module _ (c : Step) (g : List ℕ) (ys : List Record) (r : Record) (bs : List Record) (right : Sign) (q : ℕ) (t : IsThreaded c (ys ++ (r ∷ bs))) (upper : above_of (above_by r) (cell_by r).a (cell_by r).b ≡ q ∷ []) where
  -- what is given up to the cell after the record, with the point that is above there
  abbrev until : List ℕ
  until = g ++ changes_of (last_item g) (gifts_before c (ys ++ r ∷ []) ++ q ∷ [])

  behind-it : cell_after c (ys ++ r ∷ []) ≡ cell_by r
  behind-it =
      let here = threaded-append c ys (r ∷ bs) t in
      after-append c ys (r ∷ []) ∙ cell-by (cell_after c ys) r here.0 here.1

  pub until-ends : (front : List ℕ) × (until ≡ front ++ q ∷ [])
  until-ends = last-given g (gifts_before c (ys ++ r ∷ [])) q

  pub end-read : (rest : List ℕ) → gifts (cell_by r) bs right ≡ q ∷ rest → g ++ changes_of (last_item g) (gifts c (ys ++ (r ∷ bs)) right) ≡ until ++ changes_of (Some q) rest
  end-read rest f =
      let whole : gifts c (ys ++ (r ∷ bs)) right ≡ (gifts_before c (ys ++ r ∷ []) ++ q ∷ []) ++ rest =
      ap (λ (l : List Record). gifts c l right) (sym (append_assoc ys (r ∷ []) bs)) ∙ gifts-append c (ys ++ r ∷ []) bs right ∙ ap (λ (d : Step). gifts_before c (ys ++ r ∷ []) ++ gifts d bs right) behind-it
      ∙ ap (λ (l : List ℕ). gifts_before c (ys ++ r ∷ []) ++ l) f ∙ sym (append_assoc (gifts_before c (ys ++ r ∷ [])) (q ∷ []) rest) in
      let ends = until-ends in
      ap (λ (l : List ℕ). g ++ changes_of (last_item g) l) whole ∙ given-more g until (gifts_before c (ys ++ r ∷ []) ++ q ∷ []) rest refl
      ∙ ap (λ (o : Option ℕ). until ++ changes_of o rest) (ap last_item ends.1 ∙ last_item-push ends.0 q)

-- ---- one step of the walk
pub walk-step : (rs : List Record) (k : ℕ) (d : Record) (cell cell' : Step) (t : Sign) (old new total : List ℕ) (end : Step) → k < length rs → t ≡ above_by (get_or rs k d) → new ≡ old ++ changes_of (last_item old) (last_gifts cell t) → cell' ≡ cell_behind cell (get_or rs k d)
    → old ++ changes_of (last_item old) (gifts_before cell (drop k rs)) ≡ total → cell_after cell (drop k rs) ≡ end
    → (new ++ changes_of (last_item new) (gifts_before cell' (drop (k + 1) rs)) ≡ total) × (cell_after cell' (drop (k + 1) rs) ≡ end)
walk-step rs k d cell cell' t old new total end more above given behind so_far after =
    let r = get_or rs k d in
    let left = drop (k + 1) rs in
    let next : drop k rs ≡ r ∷ left = drop_more rs k d more in
    let given' : new ≡ old ++ changes_of (last_item old) (last_gifts cell (above_by r)) = given ∙ ap (λ (s : Sign). old ++ changes_of (last_item old) (last_gifts cell s)) above in (
      ap (λ (c : Step). new ++ changes_of (last_item new) (gifts_before c left)) behind
          ∙ sym (given-more old new (last_gifts cell (above_by r)) (gifts_before (cell_behind cell r) left) given')
          ∙ ap (λ (l : List Record). old ++ changes_of (last_item old) (gifts_before cell l)) (sym next)
          ∙ so_far,
      ap (λ (c : Step). cell_after c left) behind ∙ ap (λ (l : List Record). cell_after cell l) (sym next) ∙ after,
    )

-- what a walk over the whole list gives is the chain that is read off it
pub read-off : (m : Remembered) (e : End) (none most all : List ℕ) (start last : Step) (t : Sign) (rs : List Record) (right : End) → m.left ≡ Some e → none ≡ [] → start ≡ first_cell e → rs ≡ m.records
    → most ≡ none ++ changes_of (last_item none) (gifts_before start rs) → last ≡ cell_after start rs → right ≡ unwrap_or m.right e → t ≡ right_above right → all ≡ most ++ changes_of (last_item most) (last_gifts last t) → all ≡ chain_read m
read-off m e none most all start last t rs right left empty begin records walked after end above given =
    given
    ∙ ap₂ (λ (c : Step) (s : Sign). most ++ changes_of (last_item most) (last_gifts c s)) after above
    ∙ sym (given-more none most (gifts_before start rs) (last_gifts (cell_after start rs) (right_above right)) walked)
    ∙ ap₂ (λ (c : Step) (l : List Record). none ++ changes_of (last_item none) (gifts c l (right_above right))) begin records
    ∙ ap₂ (λ (n : List ℕ) (r : End). n ++ changes_of (last_item n) (gifts (first_cell e) m.records (right_above r))) empty end
    ∙ sym (ap (λ (o : Option End). chain_from o m) left)

-- what is given up to a record, and then the point that is above after it
pub given-until : (c : Step) (r : Record) (p : ℕ) (t : Sign) (old mid new : List ℕ) → t ≡ above_by r → mid ≡ old ++ changes_of (last_item old) (last_gifts c t) → new ≡ mid ++ changes_of (last_item mid) (p ∷ [])
    → new ≡ old ++ changes_of (last_item old) (gifts_before c (r ∷ []) ++ p ∷ [])
given-until c r p t old mid new above given more =
    more ∙ sym (given-more old mid (last_gifts c t) (p ∷ []) given) ∙ ap (λ (s : Sign). old ++ changes_of (last_item old) (last_gifts c s ++ p ∷ [])) above
    ∙ ap (λ (l : List ℕ). old ++ changes_of (last_item old) (l ++ p ∷ [])) (sym (append-nil (last_gifts c (above_by r))))
