-- A script that fits a module fits one with other bodies that offers the same, tags aside: no script asks for a tag.
use Rattle.std.proofs.Common.{◌≡◌, ℕ, inl, inr, List, [], ◌∷◌, filter_map, slice_get, Option, Some, sym, ◌∙◌}
use Rattle.host_kit.specs.Fits.{ActFits, CallFits, SetFits, MemoryFits, ItemFits, ReplyFits, RepliesFit, ScriptFits, results_of}
use Rattle.host_kit.specs.Offered.{exported}
use Rattle.host_kit.specs.declared.script.Act.{Act}
use Rattle.host_kit.specs.declared.script.Act.TheVariants.{Set, Peek, Poke}
use Rattle.host_kit.specs.declared.script.Item.{Item}
use Rattle.host_kit.specs.declared.script.Item.TheVariants.{Call, Host}
use Rattle.host_kit.specs.declared.script.Reply.{Reply}
use Rattle.host_kit.specs.declared.script.Script.{Script}
use Rattle.host_kit.specs.declared.value.Value.{Value}
use Rattle.wasm_ast.specs.Spaces.{func_import}
use Rattle.wasm_ast.specs.declared.module.ty.Ty.{Ty}
use Rattle.wasm_ast.specs.declared.module.code.Body.{Body}
use Rattle.wasm_ast.specs.declared.module.parts.Export.{Export}
use Rattle.wasm_ast.specs.declared.module.parts.ExportDesc.{ExportDesc}
use Rattle.wasm_ast.specs.declared.module.parts.ExportDesc.TheVariants as descs
use Rattle.wasm_ast.specs.declared.module.parts.Module.{Module}
use Rattle.pass_plain.proofs.Evaluations.{changed}
use Rattle.pass_plain.proofs.Parts.{all_map}
use Rattle.pass_plain.proofs.Runs.{SameOffer}

-- what both export under a name, where it is no tag
func_offered : (x : ℕ) (o o' : Option ExportDesc) → SameOffer o o' → o ≡ Some (descs.Func x) → o' ≡ Some (descs.Func x)
func_offered x o o' (inl e) h = sym e ∙ h
func_offered x o o' (inr t) h = let both : Some (descs.Tag t.0) ≡ Some (descs.Func x) = sym t.1 ∙ h in absurd cc

global_offered : (x : ℕ) (o o' : Option ExportDesc) → SameOffer o o' → o ≡ Some (descs.Global x) → o' ≡ Some (descs.Global x)
global_offered x o o' (inl e) h = sym e ∙ h
global_offered x o o' (inr t) h = let both : Some (descs.Tag t.0) ≡ Some (descs.Global x) = sym t.1 ∙ h in absurd cc

memory_offered : (x : ℕ) (o o' : Option ExportDesc) → SameOffer o o' → o ≡ Some (descs.Memory x) → o' ≡ Some (descs.Memory x)
memory_offered x o o' (inl e) h = sym e ∙ h
memory_offered x o o' (inr t) h = let both : Some (descs.Tag t.0) ≡ Some (descs.Memory x) = sym t.1 ∙ h in absurd cc

module _ (m : Module) (codes : List Body) (exports : List Export) (count : Option ℕ) (offers : (name : List ℕ) → SameOffer (exported m name) (exported (changed m codes exports count) name)) where
  abbrev other : Module
  other = changed m codes exports count

  call_fits : (name : List ℕ) (arguments : List Value) → CallFits m name arguments → CallFits other name arguments
  call_fits name arguments h = record { func = h.func; type = h.type; offered = func_offered h.func (exported m name) (exported other name) (offers name) h.offered; typed = h.typed; params = h.params }

  set_fits : (name : List ℕ) (v : Value) → SetFits m name v → SetFits other name v
  set_fits name v h = record { index = h.index; type = h.type; offered = global_offered h.index (exported m name) (exported other name) (offers name) h.offered; mutable = h.mutable; value = h.value }

  memory_fits : (name : List ℕ) (at count' : ℕ) → MemoryFits m name at count' → MemoryFits other name at count'
  memory_fits name at count' h = record { index = h.index; offered = memory_offered h.index (exported m name) (exported other name) (offers name) h.offered; there = h.there; address = h.address; few = h.few }

  act_fits : (a : Act) → ActFits m a → ActFits other a
  act_fits (Set name v) h = set_fits name v h
  act_fits (Peek name at count') h = memory_fits name at count' h
  act_fits (Poke name at bytes) h = (memory_fits name at _ h.0, h.1)

  item_fits : (item : Item) → ItemFits m item → ItemFits other item
  item_fits (Call name arguments) h = call_fits name arguments h
  item_fits (Host a) h = act_fits a h

  reply_fits : (results : List Ty) (r : Reply) → ReplyFits m results r → ReplyFits other results r
  reply_fits results r h = record { acts = all_map (ActFits m) (ActFits other) act_fits r.acts h.acts; values = h.values }

  replies_fit : (replies : List (List Reply)) (indices : List ℕ) → RepliesFit m replies indices → RepliesFit other replies indices
  replies_fit [] [] h = tt
  replies_fit [] (t ∷ indices) h = absurd h
  replies_fit (rs ∷ replies) [] h = absurd h
  replies_fit (rs ∷ replies) (t ∷ indices) h = (
    all_map (ReplyFits m (results_of (slice_get m.types t))) (ReplyFits other (results_of (slice_get m.types t))) (reply_fits (results_of (slice_get m.types t))) rs h.0,
    replies_fit replies indices h.1,
  )

  pub script_fits : (s : Script) → ScriptFits m s → ScriptFits other s
  script_fits s h = record {
    globals = h.globals;
    replies = replies_fit s.replies (filter_map (λ i. func_import i.desc) m.imports) h.replies;
    items = all_map (ItemFits m) (ItemFits other) item_fits s.items h.items;
  }
