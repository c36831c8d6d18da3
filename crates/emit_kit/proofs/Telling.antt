-- Entries that tell of types, as types are put last.
use Rattle.std.proofs.Common.{◌≡◌, ℕ, ◌<◌, inl, inr, Bool, true, false, cond, List, [], ◌∷◌, ◌++◌, length, Option, Some, None, refl, ap, sym, ◌∙◌, subst, true≢false, arith}
use Rattle.std.specs.Prelude.{bytes_eq}
use Rattle.std.proofs.lemmas.Option.{slice_get_within}
use Rattle.std.proofs.lemmas.Slice.Eq.{bytes_eq-Decides}
use Rattle.wasm_ast.specs.declared.module.ty.FuncType.{FuncType}
use Rattle.wasm_ast.specs.Types.{type_key}
use Rattle.emit_kit.specs.FirstTypes.{index_at, IsFirstOfKey, IsNoKey, Tells, TellsOfTypes}
use Rattle.emit_kit.proofs.Pushed.{still_at, at_last, from_pushed}

pub tells_of_none : TellsOfTypes [] []
tells_of_none = record { tells = λ key. record { none = λ i t e k. cc } }

-- the first, or else the second
abbrev or_else : Option ℕ → Option ℕ → Option ℕ
or_else None other = other
or_else (Some i) other = Some i

chosen : (b : Bool) (i : ℕ) (r s other : Option ℕ) → r ≡ or_else s other → cond b (Some i) r ≡ or_else (cond b (Some i) s) other
chosen true i r s other e = refl
chosen false i r s other e = e

index_at-pushed : (key : List ℕ) (entries : List (List ℕ × ℕ)) (last : List ℕ × ℕ) → index_at key (entries ++ last ∷ []) ≡ or_else (index_at key entries) (cond (bytes_eq key last.0) (Some last.1) None)
index_at-pushed key [] last = refl
index_at-pushed key (e ∷ es) last = chosen (bytes_eq key e.0) e.1 (index_at key (es ++ last ∷ [])) (index_at key es) (cond (bytes_eq key last.0) (Some last.1) None) (index_at-pushed key es last)

module _ (types : List FuncType) (t : FuncType) (key : List ℕ) where
  -- a first index stays one
  first_stays : (index : ℕ) → IsFirstOfKey key types index → IsFirstOfKey key (types ++ t ∷ []) index
  first_stays index f = record {
    type = f.type;
    there = still_at t types index f.type f.there;
    keyed = f.keyed;
    first = λ i u at k.
        let within : index < length types = slice_get_within types index f.type f.there in
        elim (from_pushed t types i u at) [ inl p ↦ f.first i u p k | inr p ↦ (let e : i ≡ length types = p.0 in omega arith) ];
  }

  -- a new key has its first index at the end
  first_new : IsNoKey key types → type_key t ≡ key → IsFirstOfKey key (types ++ t ∷ []) (length types)
  first_new lacks e = record {
    type = t;
    there = at_last t types;
    keyed = e;
    first = λ i u at k. elim (from_pushed t types i u at) [ inl p ↦ absurd (lacks.none i u p k) | inr p ↦ (let same : i ≡ length types = p.0 in omega arith) ];
  }

  -- a key that the new type does not have
  no_still : IsNoKey key types → (type_key t ≡ key → ⊥) → IsNoKey key (types ++ t ∷ [])
  no_still lacks apart = record {
    none = λ i u at k. elim (from_pushed t types i u at) [ inl p ↦ lacks.none i u p k | inr p ↦ apart (ap type_key p.1 ∙ k) ];
  }

module _ (types : List FuncType) (t : FuncType) (entries : List (List ℕ × ℕ)) (w : TellsOfTypes types entries) where
  -- a type whose key is there
  pub tells_again : (index : ℕ) → index_at (type_key t) entries ≡ Some index → TellsOfTypes (types ++ t ∷ []) entries
  tells_again index found = record { tells = λ key. of key (index_at key entries) refl }
    where
      of : (key : List ℕ) (r : Option ℕ) → index_at key entries ≡ r → Tells key (types ++ t ∷ []) (index_at key entries)
      of key (Some i) e = subst (Tells key (types ++ t ∷ [])) (sym e) (first_stays types t key i (subst (Tells key types) e (w.tells key)))
      of key None e =
          let lacks : IsNoKey key types = subst (Tells key types) e (w.tells key) in
          let apart : type_key t ≡ key → ⊥ = λ same. (let wrong : None ≡ Some index = sym e ∙ ap (λ k. index_at k entries) (sym same) ∙ found in cc) in
          subst (Tells key (types ++ t ∷ [])) (sym e) (no_still types t key lacks apart)

  -- a type whose key is not there, with an entry of its own
  pub tells_new : index_at (type_key t) entries ≡ None → TellsOfTypes (types ++ t ∷ []) (entries ++ (type_key t, length types) ∷ [])
  tells_new absent = record { tells = λ key. subst (Tells key (types ++ t ∷ [])) (sym (index_at-pushed key entries (type_key t, length types))) (of key (index_at key entries) refl) }
    where
      last : (key : List ℕ) → IsNoKey key types → (b : Bool) → bytes_eq key (type_key t) ≡ b → Tells key (types ++ t ∷ []) (cond b (Some (length types)) None)
      last key lacks true e = first_new types t key lacks (sym ((bytes_eq-Decides key (type_key t)).0 e))
      last key lacks false e = no_still types t key lacks (λ same. true≢false (sym ((bytes_eq-Decides key (type_key t)).1 (sym same)) ∙ e))

      of : (key : List ℕ) (r : Option ℕ) → index_at key entries ≡ r → Tells key (types ++ t ∷ []) (or_else (index_at key entries) (cond (bytes_eq key (type_key t)) (Some (length types)) None))
      of key (Some i) e = subst (λ r. Tells key (types ++ t ∷ []) (or_else r (cond (bytes_eq key (type_key t)) (Some (length types)) None))) (sym e) (first_stays types t key i (subst (Tells key types) e (w.tells key)))
      of key None e = subst (λ r. Tells key (types ++ t ∷ []) (or_else r (cond (bytes_eq key (type_key t)) (Some (length types)) None))) (sym e) (last key (subst (Tells key types) e (w.tells key)) (bytes_eq key (type_key t)) refl)
