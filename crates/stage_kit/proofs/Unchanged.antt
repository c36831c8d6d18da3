-- A step under which each instruction stays, and so does code; and that no function of the host's is left by a tail call.
use Rattle.std.proofs.Common.{◌≡◌, ℕ, ◌-◌, Bool, true, false, List, [], ◌∷◌, ◌++◌, map, length, Option, Some, None, option_map, refl, sym, ap, ◌∙◌}
use Rattle.std.specs.Prelude.{nat_lt, slice_get, option_and_then, if◌then◌else◌}
use Rattle.std.specs.List.{flat_map}
use Rattle.host_kit.specs.Offered.{func_type}
use Rattle.host_kit.specs.declared.script.Reply.{Reply}
use Rattle.wasm_ast.specs.declared.module.code.Body.{Body}
use Rattle.wasm_ast.specs.declared.module.code.Instr.{Instr, roll-Instr}
use Rattle.wasm_ast.specs.declared.module.code.Instr.TheOpen.{Instr-F}
use Rattle.wasm_ast.specs.declared.module.code.Instr.TheFolds.{map-Instr, fold-roll-Instr}
use Rattle.wasm_ast.specs.declared.module.code.Instr.TheVariants.{Call}
use Rattle.wasm_ast.specs.declared.module.parts.Module.{Module}
use Rattle.wasm_ast.specs.declared.module.ty.FuncType.{FuncType}
use Rattle.evaluation_kit.specs.Control.{Own, Host}
use Rattle.simulation_kit.specs.Rewriting.{Step, body_at, rewrite}
use Rattle.simulation_kit.proofs.Ending.{NoTailPlain, HostTail}
use Rattle.meaning_new.specs.Store.{State}
use Rattle.meaning_new.specs.Host.{replied, host_call}
use Rattle.meaning_new.specs.Forms.{function, imported_funcs, callee_of_type, callee}
use Rattle.meaning_new.specs.Language.{language, induct}
use Rattle.stage_kit.specs.Kept.{with_code, keep}

-- each instruction stays
unfoldable pub step : Step (Unit {0}) Instr-F Instr
step l x = keep tt l

-- a call as an instruction of one layer
pub call_rolled : (x : ℕ) → roll-Instr (Instr-F.Call x) ≡ Call x
unfolding roll-Instr denote.Hole.Carrier.roll
call_rolled x = refl

module _ (m : Module) where
  abbrev Same : Instr → Type 0
  Same i = rewrite (language m) step i tt ≡ i ∷ []

  abbrev Known : Type 0
  Known = (i : Instr) × Same i

  code_kept : (code : List Known) → body_at tt (map (λ k. rewrite (language m) step k.0) code) ≡ map (λ k. k.0) code
  code_kept [] = refl
  code_kept (k ∷ code) = ap (λ l. l ++ body_at tt (map (λ j. rewrite (language m) step j.0) code)) k.1 ∙ ap (λ l. k.0 ∷ l) (code_kept code)

  layer_kept : (l : Instr-F Known) → with_code (body_at tt) (map-Instr Known (Unit {0} → List Instr) (λ k. rewrite (language m) step k.0) l) ≡ map-Instr Known Instr (λ k. k.0) l
  layer_kept (Instr-F.Block t code) = ap (λ c. Instr-F.Block t c) (code_kept code)
  layer_kept (Instr-F.Loop t code) = ap (λ c. Instr-F.Loop t c) (code_kept code)
  layer_kept (Instr-F.If t first second) =
      ap (λ c. Instr-F.If t c (body_at tt (map (λ j. rewrite (language m) step j.0) second))) (code_kept first) ∙ ap (λ c. Instr-F.If t (map (λ k. k.0) first) c) (code_kept second)
  layer_kept (Instr-F.TryTable t clauses code) = ap (λ c. Instr-F.TryTable t clauses c) (code_kept code)
  layer_kept Instr-F.Nop = refl
  layer_kept l = refl

  instr_kept : (i : Instr) → Same i
  unfolding step
  instr_kept = induct Same (λ l.
      ap (λ (g : Unit {0} → List Instr). g tt) (fold-roll-Instr (Unit {0} → List Instr) step (map-Instr Known Instr (λ k. k.0) l))
      ∙ ap (λ y. step y tt) ((language m).tree.over_twice Known Instr (Unit {0} → List Instr) (λ k. k.0) (rewrite (language m) step) l)
      ∙ ap (λ y. roll-Instr y ∷ []) (layer_kept l))

  pub whole_kept : (code : List Instr) → code ≡ flat_map (λ i. rewrite (language m) step i tt) code
  whole_kept [] = refl
  whole_kept (i ∷ code) = ap (λ l. i ∷ l) (whole_kept code) ∙ ap (λ l. l ++ flat_map (λ j. rewrite (language m) step j tt) code) (sym (instr_kept i))

  -- a function of the host's is left by no tail call
  reply_ends : (x : ℕ) (r : Option (List Reply)) (s : State) → NoTailPlain (replied m x r s)
  reply_ends x None s = tt
  reply_ends x (Some []) s = tt
  reply_ends x (Some (reply ∷ rest)) s = tt

  own_tail : (t : FuncType) (o : Option Body) → HostTail (language m) (option_map (λ body. Own (function t body)) o)
  own_tail t None = tt
  own_tail t (Some body) = tt

  typed_tail : (x : ℕ) (t : FuncType) (b : Bool) → HostTail (language m) (if b then Some (Host (length t.params) (host_call m x)) else option_map (λ body. Own (function t body)) (slice_get m.codes (x - imported_funcs m)))
  typed_tail x t true = λ q. reply_ends x (slice_get q.state.replies x) _
  typed_tail x t false = own_tail t (slice_get m.codes (x - imported_funcs m))

  pub host_tail : (x : ℕ) → HostTail (language m) (callee m x)
  host_tail x = by (func_type m x)
    where
      by : (i : Option FuncType) → HostTail (language m) (option_and_then (callee_of_type m x) i)
      by None = tt
      by (Some t) = typed_tail x t (nat_lt x (imported_funcs m))
