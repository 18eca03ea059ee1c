-- What vectors hold, as lists.
use Rattle.std.proofs.Common.{◌≡◌, refl, sym, ap, ◌∙◌, arith, List, [], ◌∷◌, ◌++◌, ℕ, zero, suc, ◌+◌, ◌<◌, length, map, set, get_or, Some, None, Option, option_map}
use Rattle.std.specs.Prelude.{slice_get}
use Rattle.std.specs.Global.{Vec}
use Rattle.std.proofs.Math.Seq.{map-set_same}
use Rattle.std.proofs.lemmas.List.{map-set, length-map, length-set, length-append, set-get_or}
use Rattle.std.proofs.lemmas.Option.{slice_get-map, slice_get-get_or, slice_get_within, get_or_from_slice_get, same_Some}
use Rattle.kin_pointers.specs.declared.pointers.Pointer.{Pointer}
use Rattle.kin_pointers.specs.Pointing.{target_in, lists_of, pointing, Pointing}

-- what stands at an index
pub get_at : {A : Type 0} (xs : List A) (i : ℕ) (x y : A) → i < length xs → x ≡ get_or xs i x → x ≡ y → slice_get xs i ≡ Some y
get_at {A} xs i x y low e f = slice_get-get_or xs i x low ∙ ap (λ (z : A). Some z) (sym e ∙ f)

pub list_at : (lists : List (Vec ℕ)) (t : ℕ) (v : Vec ℕ) → t < length lists → v ≡ get_or lists t v → slice_get (lists_of lists) t ≡ Some v.items
list_at lists t v low e = slice_get-map (λ (w : Vec ℕ). w.items) lists t ∙ ap (option_map (λ (w : Vec ℕ). w.items)) (get_at lists t v v low e refl)

pub lists-set : (lists : List (Vec ℕ)) (t : ℕ) (v : Vec ℕ) → lists_of (set lists t v) ≡ set (lists_of lists) t v.items
lists-set lists t v = map-set (λ (w : Vec ℕ). w.items) lists t v

pub same_count : (lists : List (Vec ℕ)) (t : ℕ) (v : Vec ℕ) → length (lists_of (set lists t v)) ≡ length (lists_of lists)
same_count lists t v = length-map (set lists t v) (λ (w : Vec ℕ). w.items) ∙ length-set lists t v ∙ sym (length-map lists (λ (w : Vec ℕ). w.items))

-- what is seen after a slot begins to point
pub seen_set : (held : List (Option Pointer)) (lists : List (Vec ℕ)) (slot t : ℕ) (p : Option Pointer) (v : Vec ℕ) (was : Pointing) → pointing held (lists_of lists) ≡ was
    → pointing (set held slot p) (lists_of (set lists t v)) ≡ record was { targets = set was.targets slot (target_in p) }
seen_set held lists slot t p v was e =
    let targets = map-set target_in held slot p in
    let count = same_count lists t v in
    (λ k. record { targets = targets k; numbers = count k }) ∙ ap (λ (q : Pointing). record q { targets = set q.targets slot (target_in p) }) e

-- and after it ends, when another slot that points at the same number got its place
pub seen_released : (held : List (Option Pointer)) (lists : List (Vec ℕ)) (slot last t : ℕ) (p q : Pointer) (v : Vec ℕ) (was : Pointing) → pointing held (lists_of lists) ≡ was
    → slice_get held last ≡ Some (Some q) → p.target ≡ q.target
    → pointing (set (set held last (Some p)) slot None) (lists_of (set lists t v)) ≡ record was { targets = set was.targets slot None }
seen_released held lists slot last t p q v was e there same =
    let kept : map target_in (set held last (Some p)) ≡ map target_in held = map-set_same target_in held last (Some p) None (ap (λ (n : ℕ). Some n) same ∙ ap target_in (sym (get_or_from_slice_get held last (Some q) None there))) in
    let targets = map-set target_in (set held last (Some p)) slot None ∙ ap (λ (ts : List (Option ℕ)). set ts slot None) kept in
    let count = same_count lists t v in
    (λ k. record { targets = targets k; numbers = count k }) ∙ ap (λ (r : Pointing). record r { targets = set r.targets slot None }) e

-- a slot that callers see is held
pub held_room : (held : List (Option Pointer)) (lists : List (List ℕ)) (slot : ℕ) (was : Pointing) → pointing held lists ≡ was → slot < length was.targets → slot < length held
held_room held lists slot was e low =
    let n = length-map held target_in in
    let m = ap (λ (p : Pointing). length p.targets) e in
    omega (arith, n, m, low)

-- a number that has a list
pub list_room : (lists : List (Vec ℕ)) (t : ℕ) (xs : List ℕ) → slice_get (lists_of lists) t ≡ Some xs → t < length lists
list_room lists t xs e =
    let w = slice_get_within (lists_of lists) t xs e in
    let n = length-map lists (λ (w : Vec ℕ). w.items) in
    omega (arith, w, n)

-- what points at none already
pub same_if_none : (held : List (Option Pointer)) (lists : List (List ℕ)) (slot : ℕ) (was : Pointing) → pointing held lists ≡ was → slice_get held slot ≡ Some None → was ≡ record was { targets = set was.targets slot None }
same_if_none held lists slot was e here =
    let there : slice_get was.targets slot ≡ Some None = ap (λ (p : Pointing). slice_get p.targets slot) (sym e) ∙ slice_get-map target_in held slot ∙ ap (option_map target_in) here in
    ap (λ (ts : List (Option ℕ)). record was { targets = ts }) (sym (ap (set was.targets slot) (sym (get_or_from_slice_get was.targets slot None None there)) ∙ set-get_or was.targets slot None))

-- a list that is put back as it was
pub lists_same : (lists : List (Vec ℕ)) (t : ℕ) (v w : Vec ℕ) → t < length lists → v ≡ get_or lists t v → w.items ≡ v.items → lists_of (set lists t w) ≡ lists_of lists
lists_same lists t v w low e f =
    lists-set lists t w ∙ ap (set (lists_of lists) t) (f ∙ sym (get_or_from_slice_get (lists_of lists) t v.items [] (list_at lists t v low e))) ∙ set-get_or (lists_of lists) t []

-- the slot that callers see pointing at none
pub vacant_there : (held : List (Option Pointer)) (lists : List (List ℕ)) (slot : ℕ) (was : Pointing) → pointing held lists ≡ was → slice_get was.targets slot ≡ Some None → slice_get held slot ≡ Some None
vacant_there held lists slot was e vacant = from held slot (ap (λ (p : Pointing). slice_get p.targets slot) e ∙ vacant)
  where
    from : (held : List (Option Pointer)) (slot : ℕ) → slice_get (map target_in held) slot ≡ Some None → slice_get held slot ≡ Some None
    from [] slot f = absurd cc
    from (None ∷ held) zero f = refl
    from (Some p ∷ held) zero f = absurd (let g : Some p.target ≡ None = same_Some _ _ f in cc)
    from (o ∷ held) (suc slot) f = from held slot f

-- a number that callers see has a list
pub number_room : (held : List (Option Pointer)) (lists : List (Vec ℕ)) (t : ℕ) (was : Pointing) → pointing held (lists_of lists) ≡ was → t < was.numbers → t < length lists
number_room held lists t was e low =
    let n = length-map lists (λ (w : Vec ℕ). w.items) in
    let m = ap (λ (p : Pointing). p.numbers) e in
    omega (arith, n, m, low)

-- one more number
pub seen_numbered : (held : List (Option Pointer)) (lists after : List (Vec ℕ)) (was : Pointing) → pointing held (lists_of lists) ≡ was → lists_of after ≡ lists_of lists ++ [] ∷ []
    → pointing held (lists_of after) ≡ record was { numbers = was.numbers + 1 }
seen_numbered held lists after was e more =
    let count : length (lists_of after) ≡ length (lists_of lists) + 1 = ap (λ (xs : List (List ℕ)). length xs) more ∙ length-append (lists_of lists) ([] ∷ []) in
    (λ k. record { targets = map target_in held; numbers = count k }) ∙ ap (λ (q : Pointing). record q { numbers = q.numbers + 1 }) e
