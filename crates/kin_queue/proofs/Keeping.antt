-- The instants of other ids, where two lists hold them.
use Rattle.std.proofs.Common.{◌≡◌, ◌≢◌, ℕ, ◌<◌, Bool, true, false, cond, nat_eq, List, length, get_or, set, pos, refl, sym, ap, subst, ◌∙◌}
use Rattle.std.proofs.lemmas.List.{get_or-set_other, length-set}
use Rattle.std.proofs.lemmas.Bool.{eqb-true}
use Rattle.kin_num.specs.declared.instant.Shape.{Shape}
use Rattle.kin_num.specs.declared.instant.Shape.TheVariants.{Ratio}
use Rattle.kin_queue.specs.declared.instants.Cell.{Cell}
use Rattle.kin_queue.specs.declared.instants.Instants.{Instants}
use Rattle.kin_queue.specs.Cells.{no_cell, no_root, instant_at, AreKept, Extends}

-- the second list has what the first has, but for one place
abbrev pub HaveAlike : {A : Type 0} → List A → List A → ℕ → A → Type 0
HaveAlike old new id d = (k : ℕ) → k < length old → k ≢ id → (k < length new) × (get_or new k d ≡ get_or old k d)

pub the_same : {A : Type 0} (xs : List A) (id : ℕ) (d : A) → HaveAlike xs xs id d
the_same xs id d k lt n = (lt, refl)

pub extended : {A : Type 0} (xs ys : List A) (id : ℕ) (d : A) → Extends xs ys → HaveAlike xs ys id d
extended xs ys id d more k lt n = ((more k lt).0, (more k lt).1 d)

pub extended_set : {A : Type 0} (xs ys : List A) (id : ℕ) (d x : A) → Extends xs ys → HaveAlike xs (set ys id x) id d
extended_set xs ys id d x more k lt n = (subst (λ (m : ℕ). k < m) (sym (length-set ys id x)) (more k lt).0, get_or-set_other ys id k x d n ∙ (more k lt).1 d)

-- a root is read only where the cell says so
same_root : (c : Cell) (v w : Shape) → (c.d ≡ 0 → v ≡ w) → instant_at c v ≡ instant_at c w
same_root c v w h =
    elim (nat_eq c.d 0) as (λ (b : Bool). nat_eq c.d 0 ≡ b → cond b v (Ratio c.n (pos c.d)) ≡ cond b w (Ratio c.n (pos c.d))) [
      | true ↦ λ e. h (eqb-true c.d 0 e)
      | false ↦ λ e. refl
    ] refl

pub all_kept : (old new : Instants) (id : ℕ) → HaveAlike old.cells.items new.cells.items id no_cell → HaveAlike old.roots.items new.roots.items id no_root → AreKept old id new
all_kept old new id cells roots k held n =
    let c = cells k held.celled n in
    record {
      held = record {
        celled = c.0;
        rooted = λ z. (roots k (held.rooted (ap (λ (x : Cell). x.d) (sym c.1) ∙ z)) n).0;
      };
      is = ap (λ (x : Cell). instant_at x (get_or new.roots.items k no_root)) c.1 ∙ same_root (get_or old.cells.items k no_cell) (get_or new.roots.items k no_root) (get_or old.roots.items k no_root) (λ z. (roots k (held.rooted z) n).1);
    }
