-- What the host does between and inside calls: this project's own, by the names of exports. An act that asks for nothing
-- that the module exports does nothing; a script that fits has none.
use Rattle.std.specs.Prelude.{ℕ, List, [], ◌∷◌, map, filter_map, reverse, set, slice_get, slice_index_or, Option, Some, None}
use Rattle.host_kit.specs.Offered.{exported}
use Rattle.host_kit.specs.declared.event.Event.TheVariants as events
use Rattle.host_kit.specs.declared.script.Act.{Act}
use Rattle.host_kit.specs.declared.script.Act.TheVariants.{Set, Peek, Poke}
use Rattle.host_kit.specs.declared.script.Reply.{Reply}
use Rattle.host_kit.specs.declared.value.Value.{Value}
use Rattle.wasm_ast.specs.declared.module.parts.ExportDesc.{ExportDesc}
use Rattle.wasm_ast.specs.declared.module.parts.ExportDesc.TheVariants as exports
use Rattle.wasm_ast.specs.declared.module.parts.Module.{Module}
use Rattle.evaluation_kit.specs.declared.jump.Jump.TheVariants.{NoReply}
use Rattle.outcome_kit.specs.Code.{Go, Leave}
use Rattle.evaluation_kit.specs.Configurations.{Plain, PlainRes}
use Rattle.evaluation_kit.specs.Leaves.{read_range}
use Rattle.meaning_new.specs.declared.val.Val.{Val}
use Rattle.meaning_new.specs.Store.{Store, State, Memory, missing, to_host, from_host, tell, with_store}
use Rattle.meaning_new.specs.Memories.{write_at}
use Rattle.meaning_new.specs.Tables.{with_global}

-- the values of the exported globals, in export order
abbrev pub global_value : Store → ExportDesc → Option Value
global_value s (exports.Global x) = Some (to_host (slice_index_or s.globals x missing))
global_value s _ = None

abbrev pub global_values : Module → State → List Value
global_values m s = filter_map (λ e. global_value s.store e.desc) m.exports

-- a set, a peek and a poke, by what the name exports
abbrev pub set_export : Option ExportDesc → Value → State → State
set_export (Some (exports.Global x)) v s = with_store (with_global x (from_host v) s.store) s
set_export _ v s = s

abbrev pub exported_memory : Option ExportDesc → Store → Option Memory
exported_memory (Some (exports.Memory x)) s = slice_get s.memories x
exported_memory _ s = None

abbrev pub told_bytes : Option (List ℕ) → State → State
told_bytes None s = tell events.OutOfRange s
told_bytes (Some bytes) s = tell (events.Peeked bytes) s

abbrev pub peek : Option Memory → ℕ → ℕ → State → State
peek None at count s = s
peek (Some m) at count s = told_bytes (read_range at count m.bytes) s

abbrev pub told_write : Option Store → State → State
told_write None s = tell events.OutOfRange s
told_write (Some store) s = with_store store s

abbrev pub poke : Option ExportDesc → Option Memory → ℕ → List ℕ → State → State
poke (Some (exports.Memory x)) (Some m) at bytes s = told_write (write_at x m at bytes s.store) s
poke _ _ at bytes s = s

abbrev pub act : Module → Act → State → State
act m (Set name v) s = set_export (exported m name) v s
act m (Peek name at count) s = peek (exported_memory (exported m name) s.store) at count s
act m (Poke name at bytes) s = poke (exported m name) (exported_memory (exported m name) s.store) at bytes s

abbrev pub acts : Module → List Act → State → State
acts m [] s = s
acts m (a ∷ more) s = acts m more (act m a s)

-- a call of the imported function with this number: the host sees it, takes its next reply, does the acts and gives the
-- values; without a reply the run ends
abbrev pub replied : Module → ℕ → Option (List Reply) → State → PlainRes Val State
replied m x (Some (reply ∷ more)) s =
    Go (record { operands = reverse (map from_host reply.values); locals = []; state = acts m reply.acts (record s { replies = set s.replies x more }) })
replied m x _ s = Leave (NoReply x) (record { operands = []; locals = []; state = s })

abbrev pub host_call : Module → ℕ → Plain Val State → PlainRes Val State
host_call m x p =
    replied m x (slice_get p.state.replies x) (tell (events.HostCall x (map to_host (reverse p.operands)) (global_values m p.state)) p.state)
