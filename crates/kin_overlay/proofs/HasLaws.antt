-- Which facts a list has.
use Rattle.std.proofs.Common.{◌≡◌, ◌⊎◌, inl, inr, sym, ap, ◌∙◌, subst, List, [], ◌∷◌, ◌++◌, ℕ, Bool, true, false, map, ℤ, pos, Option, Some, None, Contains}
use Rattle.std.specs.Prelude.{flat_map, ◌↔◌, IsTrue, option_to_list}
use Rattle.std.proofs.lemmas.Bool.{both_ways}
use Rattle.std.proofs.lemmas.List.Elements.{Contains-append_left, Contains-append_right, Contains-append_cases}
use Rattle.kin_algebra.proofs.Members.{contains_none, contains_head, contains_tail, contains_cases}
use Rattle.kin_motion.specs.declared.form.Form.TheVariants.{Line, Turn, Slope, Dist}
use Rattle.kin_motion.specs.declared.fact.Fact.{Fact}
use Rattle.kin_motion.specs.Numbers.{is_in, IsOnce}
use Rattle.kin_motion.proofs.SetLaws.{contains_map, contains_mapped}
use Rattle.kin_overlay.specs.declared.record.Record.{Record}
use Rattle.kin_overlay.specs.declared.record.Next.{Next}
use Rattle.kin_overlay.specs.declared.end.End.{End}
use Rattle.kin_algebra.specs.declared.sign.Sign.{Sign}
use Rattle.kin_motion.specs.Merges.{Breakpoint, slope_form}
use Rattle.kin_overlay.specs.Seen.{seen}
use Rattle.kin_overlay.specs.Remembered.{Remembered, place_of, left_points, turn_fact, slope_facts_of, slope_facts, y_facts, end_facts, facts_of}
use Rattle.kin_overlay.proofs.LookupLaws.{in-lefts, same-record}

-- ---- the facts by their kinds
module _ (m : Remembered) (f : Fact) where
  abbrev turns : List Fact
  turns = map turn_fact m.records

  abbrev slopes : List Fact
  slopes = flat_map slope_facts m.records

  pub is-turn : Contains (map turn_fact m.records) f → Contains (facts_of m) f
  is-turn c = Contains-append_left (turns ++ slopes ++ end_facts m.left) (end_facts m.right) f (Contains-append_left (turns ++ slopes) (end_facts m.left) f (Contains-append_left turns slopes f c))

  pub is-slope : Contains (flat_map slope_facts m.records) f → Contains (facts_of m) f
  is-slope c = Contains-append_left (turns ++ slopes ++ end_facts m.left) (end_facts m.right) f (Contains-append_left (turns ++ slopes) (end_facts m.left) f (Contains-append_right turns slopes f c))

  pub is-left : Contains (end_facts m.left) f → Contains (facts_of m) f
  is-left c = Contains-append_left (turns ++ slopes ++ end_facts m.left) (end_facts m.right) f (Contains-append_right (turns ++ slopes) (end_facts m.left) f c)

  pub is-right : Contains (end_facts m.right) f → Contains (facts_of m) f
  is-right c = Contains-append_right (turns ++ slopes ++ end_facts m.left) (end_facts m.right) f c

  abbrev pub Kinds : Type 0
  Kinds = (Contains (map turn_fact m.records) f ⊎ Contains (flat_map slope_facts m.records) f) ⊎ (Contains (end_facts m.left) f ⊎ Contains (end_facts m.right) f)

  pub kinds : Contains (facts_of m) f → Kinds
  kinds c = last (Contains-append_cases (turns ++ slopes ++ end_facts m.left) (end_facts m.right) f c)
    where
      middle : Contains (turns ++ slopes) f ⊎ Contains (end_facts m.left) f → Kinds
      middle (inl d) = inl (Contains-append_cases turns slopes f d)
      middle (inr d) = inr (inl d)

      last : Contains (turns ++ slopes ++ end_facts m.left) f ⊎ Contains (end_facts m.right) f → Kinds
      last (inl d) = middle (Contains-append_cases (turns ++ slopes) (end_facts m.left) f d)
      last (inr d) = inr (inr d)

-- a slope fact is that of a record
pub of-record : (rs : List Record) (f : Fact) → Contains (flat_map slope_facts rs) f → (r : Record) × Contains rs r × Contains (slope_facts r) f
of-record [] f c = absurd (contains_none f c)
of-record (r ∷ rs) f c = at (Contains-append_cases (slope_facts r) (flat_map slope_facts rs) f c) (of-record rs f)
  where
    at : Contains (slope_facts r) f ⊎ Contains (flat_map slope_facts rs) f → (Contains (flat_map slope_facts rs) f → (q : Record) × Contains rs q × Contains (slope_facts q) f)
        → (q : Record) × Contains (r ∷ rs) q × Contains (slope_facts q) f
    at (inl d) rest = (r, contains_head r rs, d)
    at (inr d) rest = let w = rest d in (w.0, contains_tail r w.0 rs w.1, w.2)

pub in-record : (rs : List Record) (r : Record) (f : Fact) → Contains rs r → Contains (slope_facts r) f → Contains (flat_map slope_facts rs) f
in-record [] r f c d = absurd (contains_none r c)
in-record (q ∷ rs) r f c d = at (contains_cases q r rs c) (λ e. in-record rs r f e d)
  where
    at : (q ≡ r) ⊎ Contains rs r → (Contains rs r → Contains (flat_map slope_facts rs) f) → Contains (slope_facts q ++ flat_map slope_facts rs) f
    at (inl e) rest = Contains-append_left (slope_facts q) (flat_map slope_facts rs) f (subst (λ (z : Record). Contains (slope_facts z) f) (sym e) d)
    at (inr e) rest = Contains-append_right (slope_facts q) (flat_map slope_facts rs) f (rest e)

-- the turn of a record
pub has-turn : (m : Remembered) (r : Record) (f : Fact) → Contains m.records r → Contains (turn_fact r ∷ []) f → Contains (facts_of m) f
has-turn m r f c d = at (contains_cases (turn_fact r) f [] d)
  where
    at : (turn_fact r ≡ f) ⊎ Contains [] f → Contains (facts_of m) f
    at (inl e) = subst (λ (g : Fact). Contains (facts_of m) g) e (is-turn m (turn_fact r) (contains_map turn_fact m.records r c))
    at (inr d) = absurd (contains_none f d)

-- the facts of an end that is an end of the list
pub has-end : (m : Remembered) (e : End) (f : Fact) → (m.left ≡ Some e) ⊎ (m.right ≡ Some e) → Contains (end_facts (Some e)) f → Contains (facts_of m) f
has-end m e f (inl q) c = is-left m f (subst (λ (o : Option End). Contains (end_facts o) f) (sym q) c)
has-end m e f (inr q) c = is-right m f (subst (λ (o : Option End). Contains (end_facts o) f) (sym q) c)

-- the form of a slope fact
pub slope-is : (e : Breakpoint) (o : Option Next) (f : Fact) → Contains (slope_facts_of e o) f → (k l : ℕ) × (f.form ≡ Slope e.left e.right k l)
slope-is e None f c = absurd (contains_none f c)
slope-is e (Some n) f c = at (contains_cases (record { form = slope_form e (seen n.at); sign = n.slope }) f [] c)
  where
    at : (record { form = slope_form e (seen n.at); sign = n.slope } ≡ f) ⊎ Contains [] f → (k l : ℕ) × (f.form ≡ Slope e.left e.right k l)
    at (inl q) = (n.at.left, n.at.right, sym (ap (λ (g : Fact). g.form) q))
    at (inr d) = absurd (contains_none f d)

-- the form of a fact of an end
pub end-is : (o : Option End) (f : Fact) → Contains (end_facts o) f → (dx dy : ℤ) × (i j : ℕ) × (f.form ≡ Line dx dy (pos 0) i j)
end-is None f c = absurd (contains_none f c)
end-is (Some e) f c = at (contains_cases x_line f (y_facts e.a e.b e.y) c)
  where
    x_line : Fact
    x_line = record { form = Line (pos 1) (pos 0) (pos 0) e.a e.b; sign = e.x }

    by-y : (y : Option Sign) → Contains (y_facts e.a e.b y) f → (dx dy : ℤ) × (i j : ℕ) × (f.form ≡ Line dx dy (pos 0) i j)
    by-y None d = absurd (contains_none f d)
    by-y (Some t) d = only (contains_cases (record { form = Line (pos 0) (pos 1) (pos 0) e.a e.b; sign = t }) f [] d)
      where
        only : (record { form = Line (pos 0) (pos 1) (pos 0) e.a e.b; sign = t } ≡ f) ⊎ Contains [] f → (dx dy : ℤ) × (i j : ℕ) × (f.form ≡ Line dx dy (pos 0) i j)
        only (inl q) = (pos 0, pos 1, e.a, e.b, sym (ap (λ (g : Fact). g.form) q))
        only (inr k) = absurd (contains_none f k)

    at : (x_line ≡ f) ⊎ Contains (y_facts e.a e.b e.y) f → (dx dy : ℤ) × (i j : ℕ) × (f.form ≡ Line dx dy (pos 0) i j)
    at (inl q) = (pos 1, pos 0, e.a, e.b, sym (ap (λ (g : Fact). g.form) q))
    at (inr d) = by-y e.y d

-- ---- what a search finds in a list, which callers see as another one
module _ (rs : List Record) (left right : Option End) (f : Fact) (told : Remembered) (once : IsOnce (left_points rs)) (view : record { records = rs; left = left; right = right } ≡ told) where
  abbrev m : Remembered
  m = record { records = rs; left = left; right = right }

  in-told : Contains (facts_of m) f → Contains (facts_of told) f
  in-told = subst (λ (n : Remembered). Contains (facts_of n) f) view

  -- a fact is a turn of a record, a slope of a record, or a line of an end
  abbrev IsFound : Type 0
  IsFound =
      ((r : Record) × Contains rs r × (turn_fact r ≡ f))
      ⊎ (((r : Record) × Contains rs r × Contains (slope_facts r) f × (k l : ℕ) × (f.form ≡ Slope r.at.left r.at.right k l))
      ⊎ ((Contains (end_facts left) f ⊎ Contains (end_facts right) f) × (dx dy : ℤ) × (i j : ℕ) × (f.form ≡ Line dx dy (pos 0) i j)))

  found : Contains (facts_of told) f → IsFound
  found c = at (kinds m f (subst (λ (n : Remembered). Contains (facts_of n) f) (sym view) c))
    where
      at : Kinds m f → IsFound
      at (inl (inl d)) = let w = contains_mapped turn_fact rs f d in inl (w.0, w.1, sym w.2)
      at (inl (inr d)) = let w = of-record rs f d in let v = slope-is (place_of w.0) w.0.next f w.2 in inr (inl (w.0, w.1, w.2, v.0, v.1, v.2))
      at (inr (inl d)) = let v = end-is left f d in inr (inr (inl d, v.0, v.1, v.2, v.3, v.4))
      at (inr (inr d)) = let v = end-is right f d in inr (inr (inr d, v.0, v.1, v.2, v.3, v.4))

  -- a turn is that of the record at its first number
  turn-at : (i j k : ℕ) → f.form ≡ Turn i j k → Contains (facts_of told) f → (r : Record) × Contains rs r × (r.at.left ≡ i) × (turn_fact r ≡ f)
  turn-at i j k is c = at (found c)
    where
      at : IsFound → (r : Record) × Contains rs r × (r.at.left ≡ i) × (turn_fact r ≡ f)
      at (inl (r, there, e)) = let same : Turn r.at.left r.at.right r.across ≡ Turn i j k = ap (λ (g : Fact). g.form) e ∙ is in (r, there, cc, e)
      at (inr (inl (r, there, own, k', l, e))) = absurd (let clash : Turn i j k ≡ Slope r.at.left r.at.right k' l = sym is ∙ e in cc)
      at (inr (inr (side, dx, dy, i', j', e))) = absurd (let clash : Turn i j k ≡ Line dx dy (pos 0) i' j' = sym is ∙ e in cc)

  -- a slope is that of the record at its first number
  slope-at : (i j k l : ℕ) → f.form ≡ Slope i j k l → Contains (facts_of told) f → (r : Record) × Contains rs r × (r.at.left ≡ i) × Contains (slope_facts r) f
  slope-at i j k l is c = at (found c)
    where
      at : IsFound → (r : Record) × Contains rs r × (r.at.left ≡ i) × Contains (slope_facts r) f
      at (inl (r, there, e)) = absurd (let clash : Turn r.at.left r.at.right r.across ≡ Slope i j k l = ap (λ (g : Fact). g.form) e ∙ is in cc)
      at (inr (inl (r, there, own, k', l', e))) = let same : Slope r.at.left r.at.right k' l' ≡ Slope i j k l = sym e ∙ is in (r, there, cc, own)
      at (inr (inr (side, dx, dy, i', j', e))) = absurd (let clash : Slope i j k l ≡ Line dx dy (pos 0) i' j' = sym is ∙ e in cc)

  -- no record has the point on its left
  nowhere : (i : ℕ) → is_in i (left_points rs) ≡ false → (r : Record) → Contains rs r → r.at.left ≡ i → IsTrue false
  nowhere i none r c e = absurd (both_ways (is_in i (left_points rs)) none (ap (λ (n : ℕ). is_in n (left_points rs)) (sym e) ∙ in-lefts rs r c))

  pub turn-found : (i j k : ℕ) → f.form ≡ Turn i j k → (r : Record) → Contains rs r → r.at.left ≡ i → (g : Fact) → g ≡ turn_fact r → (b : Bool) → IsTrue b ↔ (g ≡ f) → IsTrue b ↔ Contains (facts_of told) f
  turn-found i j k is r there e g own b test = (
    λ t. in-told (is-turn m f (subst (λ (h : Fact). Contains (map turn_fact rs) h) (sym own ∙ test.0 t) (contains_map turn_fact rs r there))),
    λ c. let w = turn-at i j k is c in test.1 (own ∙ ap turn_fact (same-record rs r w.0 once there w.1 (e ∙ sym w.2)) ∙ w.3),
  )

  pub turn-missing : (i j k : ℕ) → f.form ≡ Turn i j k → is_in i (left_points rs) ≡ false → IsTrue false ↔ Contains (facts_of told) f
  turn-missing i j k is none = (
    λ t. absurd (let clash : false ≡ true = t in cc),
    λ c. let w = turn-at i j k is c in nowhere i none w.0 w.1 w.2,
  )

  pub slope-found : (i j k l : ℕ) → f.form ≡ Slope i j k l → (r : Record) → Contains rs r → r.at.left ≡ i → (o : Option Fact) → option_to_list o ≡ slope_facts r → (b : Bool) → IsTrue b ↔ (o ≡ Some f) → IsTrue b ↔ Contains (facts_of told) f
  slope-found i j k l is r there e o own b test = (
    λ t. in-told (is-slope m f (in-record rs r f there (subst (λ (fs : List Fact). Contains fs f) (ap (λ (q : Option Fact). option_to_list q) (sym (test.0 t)) ∙ own) (contains_head f [])))),
    λ c. let w = slope-at i j k l is c in test.1 (only o (subst (λ (fs : List Fact). Contains fs f) (ap slope_facts (sym (same-record rs r w.0 once there w.1 (e ∙ sym w.2))) ∙ sym own) w.3)),
  )
    where
      only : (q : Option Fact) → Contains (option_to_list q) f → q ≡ Some f
      only None c = absurd (contains_none f c)
      only (Some g) c = at (contains_cases g f [] c)
        where
          at : (g ≡ f) ⊎ Contains [] f → Some g ≡ Some f
          at (inl q) = ap (λ (h : Fact). Some h) q
          at (inr d) = absurd (contains_none f d)

  pub slope-missing : (i j k l : ℕ) → f.form ≡ Slope i j k l → is_in i (left_points rs) ≡ false → IsTrue false ↔ Contains (facts_of told) f
  slope-missing i j k l is none = (
    λ t. absurd (let clash : false ≡ true = t in cc),
    λ c. let w = slope-at i j k l is c in nowhere i none w.0 w.1 w.2,
  )

  -- a line is that of an end
  line-at : (dx dy off : ℤ) (i j : ℕ) → f.form ≡ Line dx dy off i j → Contains (facts_of told) f → Contains (end_facts left) f ⊎ Contains (end_facts right) f
  line-at dx dy off i j is c = at (found c)
    where
      at : IsFound → Contains (end_facts left) f ⊎ Contains (end_facts right) f
      at (inl (r, there, e)) = absurd (let clash : Turn r.at.left r.at.right r.across ≡ Line dx dy off i j = ap (λ (g : Fact). g.form) e ∙ is in cc)
      at (inr (inl (r, there, own, k, l, e))) = absurd (let clash : Slope r.at.left r.at.right k l ≡ Line dx dy off i j = sym e ∙ is in cc)
      at (inr (inr (side, dx', dy', i', j', e))) = side

  pub line-left : (b : Bool) → b ≡ true → IsTrue b ↔ Contains (end_facts left) f → IsTrue b ↔ Contains (facts_of told) f
  line-left b t test = (λ h. in-told (is-left m f (test.0 h)), λ c. t)

  pub line-right : (dx dy off : ℤ) (i j : ℕ) → f.form ≡ Line dx dy off i j → (d b : Bool) → d ≡ false → IsTrue d ↔ Contains (end_facts left) f → IsTrue b ↔ Contains (end_facts right) f → IsTrue b ↔ Contains (facts_of told) f
  line-right dx dy off i j is d b out first test = (λ h. in-told (is-right m f (test.0 h)), λ c. at (line-at dx dy off i j is c))
    where
      at : Contains (end_facts left) f ⊎ Contains (end_facts right) f → IsTrue b
      at (inl k) = absurd (let clash : false ≡ true = sym out ∙ first.1 k in cc)
      at (inr k) = test.1 k

  pub no-distance : (i j k l : ℕ) → f.form ≡ Dist i j k l → IsTrue false ↔ Contains (facts_of told) f
  no-distance i j k l is = (λ t. absurd (let clash : false ≡ true = t in cc), λ c. at (found c))
    where
      at : IsFound → IsTrue false
      at (inl (r, there, e)) = absurd (let clash : Turn r.at.left r.at.right r.across ≡ Dist i j k l = ap (λ (g : Fact). g.form) e ∙ is in cc)
      at (inr (inl (r, there, own, k', l', e))) = absurd (let clash : Slope r.at.left r.at.right k' l' ≡ Dist i j k l = sym e ∙ is in cc)
      at (inr (inr (side, dx, dy, i', j', e))) = absurd (let clash : Line dx dy (pos 0) i' j' ≡ Dist i j k l = sym e ∙ is in cc)
