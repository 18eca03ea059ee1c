-- The map of entries whose ids differ.
use Rattle.std.proofs.Common.{◌≡◌, ◌≢◌, ◌⊎◌, ◌↔◌, inl, inr, ℕ, suc, ◌+◌, ◌<◌, Bool, true, false, cond, List, [], ◌∷◌, length, get_or, Option, Some, None, refl, sym, ap, subst, ◌∙◌, arith}
use Rattle.std.specs.Ordering.{nat_cmp}
use Rattle.std.specs.FinMap as map
use Rattle.std.specs.FinMap.{from_entries, nat_cmp-IsAntisymmetric, same_map, get-from_entries, get-insert, get-remove, len-empty, len-insert}
use Rattle.std.proofs.lemmas.Cmp.{nat_cmp_total}
use Rattle.kin_num.specs.declared.instant.Moment.{Moment}
use Rattle.kin_queue.specs.Agenda.{Agenda}
use Rattle.kin_queue.specs.Heap.{IsHeap, agenda_of}
use Rattle.kin_queue.specs.Hole.{Stands, StandsOutside}
use Rattle.kin_queue.proofs.Entries.{same, same_is, same_itself, look_up, look_up-place, look_up-missed, look_up-absent}

-- an id stands at one place alone
abbrev pub HaveDifferentIds : List (ℕ × Moment) → Type 0
HaveDifferentIds es = (i j : ℕ) (d : ℕ × Moment) → i < length es → j < length es → (get_or es i d).0 ≡ (get_or es j d).0 → i ≡ j

pub heap_apart : (es : List (ℕ × Moment)) (ps : List ℕ) → IsHeap es ps → HaveDifferentIds es
heap_apart es ps heap i j d li lj e = sym (heap.placed i d li).1 ∙ ap (λ (k : ℕ). get_or ps k 0) e ∙ (heap.placed j d lj).1

-- what is looked up stands there
pub found : (es : List (ℕ × Moment)) (q : ℕ) (v : Moment) → look_up q es ≡ Some v → Stands es (q, v)
found es q v h = let r = look_up-place es q v h in (r.0, r.1, r.2)

pub found_at : (es : List (ℕ × Moment)) → HaveDifferentIds es → (e : ℕ × Moment) → Stands es e → look_up e.0 es ≡ Some e.1
found_at es apart e s = at (look_up e.0 es) refl
  where
    at : (o : Option Moment) → look_up e.0 es ≡ o → look_up e.0 es ≡ Some e.1
    at None n = absurd (look_up-missed es e.0 n s.0 e s.1 (ap (λ (x : ℕ × Moment). x.0) (s.2 e)))
    at (Some w) n =
        let r = found es e.0 w n in
        let i : r.0 ≡ s.0 = apart r.0 s.0 e r.1 s.1 (ap (λ (x : ℕ × Moment). x.0) (r.2 e) ∙ sym (ap (λ (x : ℕ × Moment). x.0) (s.2 e))) in
        n ∙ ap (λ (x : ℕ × Moment). Some x.1) (sym (r.2 e) ∙ ap (λ (k : ℕ). get_or es k e) i ∙ s.2 e)

none_some : (v : Moment) → None ≡ Some v → ⊥
none_some v e = cc

-- lists with the same entries of an id answer it alike
pub same_look_up : (es fs : List (ℕ × Moment)) → HaveDifferentIds es → HaveDifferentIds fs → (q : ℕ) → ((v : Moment) → Stands es (q, v) ↔ Stands fs (q, v)) → look_up q es ≡ look_up q fs
same_look_up es fs ae af q same = at (look_up q es) (look_up q fs) refl refl
  where
    at : (a b : Option Moment) → look_up q es ≡ a → look_up q fs ≡ b → look_up q es ≡ look_up q fs
    at (Some v) b ha hb = ha ∙ sym (found_at fs af (q, v) ((same v).0 (found es q v ha)))
    at None (Some w) ha hb = absurd (none_some w (sym ha ∙ found_at es ae (q, w) ((same w).1 (found fs q w hb))))
    at None None ha hb = ha ∙ sym hb

pub nowhere : (es : List (ℕ × Moment)) (q : ℕ) → ((v : Moment) → ¬ (Stands es (q, v))) → look_up q es ≡ None
nowhere es q n = at (look_up q es) refl
  where
    at : (a : Option Moment) → look_up q es ≡ a → look_up q es ≡ None
    at None h = h
    at (Some v) h = absurd (n v (found es q v h))

pub by_id : (q k : ℕ) (P : Bool → Type 0) → (q ≡ k → P true) → (q ≢ k → P false) → P (same q k)
by_id q k P same_id other = elim (same q k) as (λ b. same q k ≡ b → P b) [
  | true ↦ λ t. same_id (same_is q k t)
  | false ↦ λ t. other (λ e. absurd (let both : true ≡ false = sym (subst (λ (x : ℕ). same q x ≡ true) e (same_itself q)) ∙ t in cc))
] refl

pub moments_inserted : (es fs : List (ℕ × Moment)) (x : ℕ × Moment) → HaveDifferentIds es → HaveDifferentIds fs → ((e : ℕ × Moment) → Stands fs e ↔ ((e ≡ x) ⊎ Stands es e)) → from_entries {R = nat_cmp} fs ≡ map.insert (from_entries es) x.0 x.1
moments_inserted es fs x ae af is =
    same_map nat_cmp_total nat_cmp-IsAntisymmetric _ _ (λ q. get-from_entries nat_cmp_total fs q ∙ answer q ∙ sym (get-insert nat_cmp_total (from_entries es) x.0 x.1 q ∙ ap (cond (same q x.0) (Some x.1)) (get-from_entries nat_cmp_total es q)))
  where
    answer : (q : ℕ) → look_up q fs ≡ cond (same q x.0) (Some x.1) (look_up q es)
    answer q = by_id q x.0 (λ b. look_up q fs ≡ cond b (Some x.1) (look_up q es))
        (λ e. ap (λ (k : ℕ). look_up k fs) e ∙ found_at fs af x ((is x).1 (inl refl)))
        (λ n. same_look_up fs es af ae q (λ v. (λ s. elim ((is (q, v)).0 s) [ inl e ↦ absurd (n (ap (λ (k : ℕ × Moment). k.0) e)) | inr o ↦ o ], λ s. (is (q, v)).1 (inr s))))

pub moments_removed : (es fs : List (ℕ × Moment)) (place : ℕ) (d : ℕ × Moment) → HaveDifferentIds es → HaveDifferentIds fs → place < length es → ((e : ℕ × Moment) → Stands fs e ↔ StandsOutside es place e) → from_entries {R = nat_cmp} fs ≡ map.remove (from_entries es) (get_or es place d).0
moments_removed es fs place d ae af lt is =
    same_map nat_cmp_total nat_cmp-IsAntisymmetric _ _ (λ q. get-from_entries nat_cmp_total fs q ∙ answer q ∙ sym (get-remove nat_cmp_total (from_entries es) (get_or es place d).0 q ∙ ap (cond (same q (get_or es place d).0) None) (get-from_entries nat_cmp_total es q)))
  where
    id : ℕ
    id = (get_or es place d).0

    -- what stands outside has another id
    other_id : (q : ℕ) (v : Moment) → StandsOutside es place (q, v) → q ≢ (get_or es place d).0
    other_id q v s e = s.2 (ae s.0 place d s.1 lt (ap (λ (k : ℕ × Moment). k.0) (s.3 d) ∙ e))

    outside : (q : ℕ) (v : Moment) → q ≢ (get_or es place d).0 → Stands es (q, v) → StandsOutside es place (q, v)
    outside q v n s = (s.0, s.1, λ e. n (sym (ap (λ (k : ℕ × Moment). k.0) (s.2 d)) ∙ ap (λ (i : ℕ). (get_or es i d).0) e), s.2)

    answer : (q : ℕ) → look_up q fs ≡ cond (same q (get_or es place d).0) None (look_up q es)
    answer q = by_id q (get_or es place d).0 (λ b. look_up q fs ≡ cond b None (look_up q es))
        (λ e. nowhere fs q (λ v s. other_id q v ((is (q, v)).0 s) e))
        (λ n. same_look_up fs es af ae q (λ v. (λ s. let o = (is (q, v)).0 s in (o.0, o.1, o.3), λ s. (is (q, v)).1 (outside q v n s))))

tail_apart : (e : ℕ × Moment) (es : List (ℕ × Moment)) → HaveDifferentIds (e ∷ es) → HaveDifferentIds es
tail_apart e es a i j d li lj s = let h : suc i ≡ suc j = a (suc i) (suc j) d (omega arith) (omega arith) s in omega arith

pub len_entries : (es : List (ℕ × Moment)) → HaveDifferentIds es → map.len (from_entries {R = nat_cmp} es) ≡ length es
len_entries [] a = len-empty nat_cmp Moment
len_entries (e ∷ es) a =
    let none : look_up e.0 es ≡ None = look_up-absent es e.0 e (λ i li s. absurd (let h : suc i ≡ 0 = a (suc i) 0 e (omega arith) (omega arith) s in omega arith)) in
    let free : map.get (from_entries {R = nat_cmp} es) e.0 ≡ None = get-from_entries nat_cmp_total es e.0 ∙ none in
    let more : map.len (from_entries {R = nat_cmp} (e ∷ es)) ≡ map.len (from_entries {R = nat_cmp} es) + 1 = rw free at (len-insert nat_cmp_total (from_entries {R = nat_cmp} es) e.0 e.1) in
    let less = len_entries es (tail_apart e es a) in
    omega arith

-- how many entries the view of a heap has
pub counted : (es : List (ℕ × Moment)) (ps : List ℕ) (next : ℕ) (a : Agenda) → agenda_of es next ≡ a → IsHeap es ps → length es ≡ map.len a.moments
counted es ps next a e heap = sym (len_entries es (heap_apart es ps heap)) ∙ ap (λ (x : Agenda). map.len x.moments) e
