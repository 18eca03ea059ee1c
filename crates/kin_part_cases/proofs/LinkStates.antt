-- The states of three linked nodes in two lists.
use Rattle.std.proofs.Common.{◌≡◌, refl, sym, ap, ap₂, ◌∙◌, subst, arith, List, [], ◌∷◌, ◌++◌, ℕ, ◌+◌, ◌<◌, length, set, Some}
use Rattle.std.specs.Prelude.{slice_get, slice_set, insert, remove}
use Rattle.std.proofs.lemmas.Option.{same_Some}
use Rattle.kin_links.specs.Family.{Linked, Standing, HasLinked, exchanged}

abbrev Lists : Type 0
Lists = List (List (Linked ℕ))

abbrev pub one : ℕ → ℕ → Linked ℕ
one node item = record { node = node; item = item }

put : (v v' con : Lists) (list place node item : ℕ) (xs : List (Linked ℕ)) → v ≡ con → slice_get con list ≡ Some xs → HasLinked v v' list place node item → v' ≡ set con list (insert xs place (one node item))
put v v' con list place node item xs e g h =
    let same : h.items ≡ xs = same_Some h.items xs (sym h.listed ∙ ap (λ (w : Lists). slice_get w list) e ∙ g) in
    h.linked ∙ ap₂ (λ (w : Lists) (ys : List (Linked ℕ)). set w list (insert ys place (one node item))) e same

-- a node stands in lists that are known
pub stands : (v con : Lists) (node list place item : ℕ) (xs : List (Linked ℕ)) → v ≡ con → slice_get con list ≡ Some xs → slice_get xs place ≡ Some (one node item) → Standing v node
stands v con node list place item xs e g h = record { list = list; place = place; items = xs; item = item; listed = ap (λ (w : Lists). slice_get w list) e ∙ g; at = h }

module _ (v0 v1 v2 v3 v4 v5 : Lists) (o l n f x : ℕ) (a : v0 ≡ []) (b : o ≡ length v0) (c : v1 ≡ v0 ++ [] ∷ []) (d : l ≡ length v1) (e : v2 ≡ v1 ++ [] ∷ []) where
  zeroth : o ≡ 0
  zeroth = b ∙ ap (λ (w : Lists). length w) a

  first_state : v1 ≡ [] ∷ []
  first_state = c ∙ ap (λ (w : Lists). w ++ [] ∷ []) a

  oneth : l ≡ 1
  oneth = d ∙ ap (λ (w : Lists). length w) first_state

  second_state : v2 ≡ [] ∷ [] ∷ []
  second_state = e ∙ ap (λ (w : Lists). w ++ [] ∷ []) first_state

  module _ (g : HasLinked v2 v3 o 0 n 9) (h : HasLinked v3 v4 l 0 f 5) where
    third_state : v3 ≡ (one n 9 ∷ []) ∷ [] ∷ []
    third_state = put v2 v3 _ 0 0 n 9 [] second_state refl (subst (λ (k : ℕ). HasLinked v2 v3 k 0 n 9) zeroth g)

    pub fourth_state : v4 ≡ (one n 9 ∷ []) ∷ (one f 5 ∷ []) ∷ []
    fourth_state = put v3 v4 _ 1 0 f 5 [] third_state refl (subst (λ (k : ℕ). HasLinked v3 v4 k 0 f 5) oneth h)

    pub five_alone : Standing v4 f
    five_alone = stands v4 _ f 1 0 5 _ fourth_state refl refl

    module _ (k : (s : Standing v4 f) → HasLinked v4 v5 s.list (s.place + 1) x 6) where
      pub fifth_state : v5 ≡ (one n 9 ∷ []) ∷ (one f 5 ∷ one x 6 ∷ []) ∷ []
      fifth_state =
          put v4 v5 _ 1 1 x 6 _ fourth_state refl
          (k (record { list = 1; place = 0; items = one f 5 ∷ []; item = 5; listed = ap (λ (w : Lists). slice_get w 1) fourth_state; at = refl }))

      pub five_first : Standing v5 f
      five_first = stands v5 _ f 1 0 5 _ fifth_state refl refl

      pub six_second : Standing v5 x
      six_second = stands v5 _ x 1 1 6 _ fifth_state refl refl

      pub five_has_next : (s : Standing v5 f) × (s.place + 1 < length s.items)
      five_has_next = (record { list = 1; place = 0; items = one f 5 ∷ one x 6 ∷ []; item = 5; listed = ap (λ (w : Lists). slice_get w 1) fifth_state; at = refl }, omega arith)

      pub fifth_long : l < length v5
      fifth_long = subst (λ (k : ℕ). k < length v5) (sym oneth) (subst (λ (w : Lists). 1 < length w) (sym fifth_state) (omega arith))

      module _ (v6 v7 : Lists) (m : (s : Standing v5 f) (next : Linked ℕ) → slice_get s.items (s.place + 1) ≡ Some next → v6 ≡ slice_set v5 s.list (exchanged s.items s.place (one f s.item) next)) where
        sixth_state : v6 ≡ (one n 9 ∷ []) ∷ (one x 6 ∷ one f 5 ∷ []) ∷ []
        sixth_state =
            m (record { list = 1; place = 0; items = one f 5 ∷ one x 6 ∷ []; item = 5; listed = ap (λ (w : Lists). slice_get w 1) fifth_state; at = refl }) (one x 6) refl
            ∙ ap (λ (w : Lists). set w 1 (one x 6 ∷ one f 5 ∷ [])) fifth_state

        pub five_second : Standing v6 f
        five_second = stands v6 _ f 1 1 5 _ sixth_state refl refl

        pub sixth_long : l < length v6
        sixth_long = subst (λ (k : ℕ). k < length v6) (sym oneth) (subst (λ (w : Lists). 1 < length w) (sym sixth_state) (omega arith))

        module _ (q : (s : Standing v6 f) → v7 ≡ slice_set v6 s.list (remove s.items s.place)) where
          seventh_state : v7 ≡ (one n 9 ∷ []) ∷ (one x 6 ∷ []) ∷ []
          seventh_state =
              q (record { list = 1; place = 1; items = one x 6 ∷ one f 5 ∷ []; item = 5; listed = ap (λ (w : Lists). slice_get w 1) sixth_state; at = refl })
              ∙ ap (λ (w : Lists). set w 1 (one x 6 ∷ [])) sixth_state

          pub six_alone : Standing v7 x
          six_alone = stands v7 _ x 1 0 6 _ seventh_state refl refl

          pub nine_alone : Standing v7 n
          nine_alone = stands v7 _ n 0 0 9 _ seventh_state refl refl

          pub seventh_long : o < length v7
          seventh_long = subst (λ (k : ℕ). k < length v7) (sym zeroth) (subst (λ (w : Lists). 0 < length w) (sym seventh_state) (omega arith))
