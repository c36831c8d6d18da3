-- What adding a type makes of the parts.
use Rattle.std.proofs.Common.{◌≡◌, ℕ, ◌<◌, inl, inr, List, [], ◌∷◌, ◌++◌, length, Some, None, Result, Ok, Err, IfOk, OnOk, OnErr, refl, ap, sym, ◌∙◌, subst, arith}
use Rattle.std.specs.declared.alloc.AllocError.{AllocError}
use Rattle.std.proofs.lemmas.Option.{slice_get_within}
use Rattle.wasm_ast.specs.declared.module.ty.FuncType.{FuncType}
use Rattle.wasm_ast.specs.Types.{type_key}
use Rattle.emit_kit.specs.Built.{Built, AddsType, with_type}
use Rattle.emit_kit.specs.FirstTypes.{index_at, IsFirstOfKey, IsNoKey, Tells, TellsOfTypes}
use Rattle.emit_kit.proofs.Pushed.{at_last, from_pushed}
use Rattle.emit_kit.proofs.KeyOfType.{same_type}
use Rattle.emit_kit.proofs.Telling.{tells_new}

module _ (b : Built) (t : FuncType) (entries : List (List ℕ × ℕ)) (w : TellsOfTypes b.0.types entries) where
  pub adds_known : (index : ℕ) → index_at (type_key t) entries ≡ Some index → AddsType b t index b
  adds_known index found =
      let f : IsFirstOfKey (type_key t) b.0.types index = subst (Tells (type_key t) b.0.types) found (w.tells (type_key t)) in
      let within : index < length b.0.types = slice_get_within b.0.types index f.type f.there in
      record {
        stands = record { there = f.there ∙ ap Some (same_type f.type t f.keyed); first = λ i at. f.first i t at refl };
        known = λ less. refl;
        unknown = λ more. (let never : ⊥ = omega arith in absurd never);
      }

  pub adds_unknown : index_at (type_key t) entries ≡ None → AddsType b t (length b.0.types) (with_type b t)
  adds_unknown absent =
      let lacks : IsNoKey (type_key t) b.0.types = subst (Tells (type_key t) b.0.types) absent (w.tells (type_key t)) in
      record {
        stands = record {
          there = at_last t b.0.types;
          first = λ i at. elim (from_pushed t b.0.types i t at) [ inl p ↦ absurd (lacks.none i t p refl) | inr p ↦ (let same : i ≡ length b.0.types = p.0 in omega arith) ];
        };
        known = λ less. (let never : ⊥ = omega arith in absurd never);
        unknown = λ more. refl;
      }

  -- the same, of what a call says that puts the type last
  pub adds_pushed : index_at (type_key t) entries ≡ None → (r : Result ℕ AllocError) (types : List FuncType) → IfOk r (λ index. index ≡ length b.0.types) → OnOk r (types ≡ b.0.types ++ t ∷ []) → IfOk r (λ index. AddsType b t index (record b.0 { types = types }, b.1))
  adds_pushed absent (Ok index) types is pushed =
      subst (λ i. AddsType b t i (record b.0 { types = types }, b.1)) (sym is)
      (subst (λ ts. AddsType b t (length b.0.types) (record b.0 { types = ts }, b.1)) (sym pushed) (adds_unknown absent))
  adds_pushed absent (Err e) types is pushed = tt

  -- the entries still tell of the types
  pub tells_pushed : (r : Result ℕ AllocError) (types : List FuncType) (more : List (List ℕ × ℕ)) → index_at (type_key t) entries ≡ None → OnOk r (types ≡ b.0.types ++ t ∷ []) → OnOk r (more ≡ entries ++ (type_key t, length b.0.types) ∷ []) → OnErr r (types ≡ b.0.types) → OnErr r (more ≡ entries) → TellsOfTypes types more
  tells_pushed (Ok index) types more absent pushed noted same_types same_entries =
      subst (λ ts. TellsOfTypes ts more) (sym pushed) (subst (TellsOfTypes (b.0.types ++ t ∷ [])) (sym noted) (tells_new b.0.types t entries w absent))
  tells_pushed (Err e) types more absent pushed noted same_types same_entries =
      subst (λ ts. TellsOfTypes ts more) (sym same_types) (subst (TellsOfTypes b.0.types) (sym same_entries) w)
