-- What the host of a module of 1.0 does between and inside calls: this project's own, by the names of exports. An act that
-- asks for nothing that the module exports does nothing; a script that fits has none.
use Rattle.std.specs.Prelude.{ℕ, List, [], ◌∷◌, map, filter_map, reverse, set, slice_get, slice_index_or, Option, Some, None}
use Rattle.host_kit.specs.Offered1.{exported1}
use Rattle.host_kit.specs.declared.event.Event.TheVariants as events
use Rattle.host_kit.specs.declared.script.Act.{Act}
use Rattle.host_kit.specs.declared.script.Act.TheVariants.{Set, Peek, Poke}
use Rattle.host_kit.specs.declared.script.Reply.{Reply}
use Rattle.host_kit.specs.declared.value.Value.{Value}
use Rattle.core1_ast.specs.declared.module.parts.ExportDesc1.{ExportDesc1}
use Rattle.core1_ast.specs.declared.module.parts.ExportDesc1.TheVariants as exports
use Rattle.core1_ast.specs.declared.module.parts.Module1.{Module1}
use Rattle.evaluation_kit.specs.declared.jump.Jump.TheVariants.{NoReply}
use Rattle.outcome_kit.specs.Code.{Go, Leave}
use Rattle.evaluation_kit.specs.Configurations.{Plain, PlainRes}
use Rattle.evaluation_kit.specs.Leaves.{read_range, write_range}
use Rattle.meaning_core1.specs.declared.val1.Val1.{Val1}
use Rattle.meaning_core1.specs.Store.{Store1, State1, Memory1, in_store, absent, host_value, value_from, show}
use Rattle.meaning_core1.specs.Accesses.{put_global, put_bytes}

-- the values of the exported globals, in export order
abbrev pub exported_value : Store1 → ExportDesc1 → Option Value
exported_value s (exports.Global x) = Some (host_value (slice_index_or s.globals x absent))
exported_value s _ = None

abbrev pub exported_values : Module1 → State1 → List Value
exported_values m s = filter_map (λ e. exported_value s.store e.desc) m.exports

-- set
abbrev pub set1 : Option ExportDesc1 → Value → State1 → State1
set1 (Some (exports.Global x)) v s = in_store (put_global x (value_from v) s.store) s
set1 _ v s = s

-- peek
abbrev pub shown_bytes : Option (List ℕ) → State1 → State1
shown_bytes None s = show events.OutOfRange s
shown_bytes (Some bytes) s = show (events.Peeked bytes) s

abbrev pub peek_memory : Option Memory1 → ℕ → ℕ → State1 → State1
peek_memory None at count s = s
peek_memory (Some m) at count s = shown_bytes (read_range at count m.bytes) s

abbrev pub peek1 : Option ExportDesc1 → ℕ → ℕ → State1 → State1
peek1 (Some (exports.Memory x)) at count s = peek_memory (slice_get s.store.memories x) at count s
peek1 _ at count s = s

-- poke
abbrev pub poked : ℕ → Memory1 → Option (List ℕ) → State1 → State1
poked x m None s = show events.OutOfRange s
poked x m (Some bytes) s = in_store (put_bytes x m bytes s.store) s

abbrev pub poke_memory : ℕ → Option Memory1 → ℕ → List ℕ → State1 → State1
poke_memory x None at bytes s = s
poke_memory x (Some m) at bytes s = poked x m (write_range at bytes m.bytes) s

abbrev pub poke1 : Option ExportDesc1 → ℕ → List ℕ → State1 → State1
poke1 (Some (exports.Memory x)) at bytes s = poke_memory x (slice_get s.store.memories x) at bytes s
poke1 _ at bytes s = s

abbrev pub act1 : Module1 → Act → State1 → State1
act1 m (Set name v) s = set1 (exported1 m name) v s
act1 m (Peek name at count) s = peek1 (exported1 m name) at count s
act1 m (Poke name at bytes) s = poke1 (exported1 m name) at bytes s

abbrev pub acts1 : Module1 → List Act → State1 → State1
acts1 m [] s = s
acts1 m (a ∷ more) s = acts1 m more (act1 m a s)

-- a call of an imported function: the host sees it, takes its next reply, does the acts and gives the values; without a
-- reply the run ends
abbrev pub answer1 : Module1 → ℕ → Option (List Reply) → State1 → PlainRes Val1 State1
answer1 m x (Some (reply ∷ more)) s =
    Go (record { operands = reverse (map value_from reply.values); locals = []; state = acts1 m reply.acts (record s { replies = set s.replies x more }) })
answer1 m x _ s = Leave (NoReply x) (record { operands = []; locals = []; state = s })

abbrev pub call_host : Module1 → ℕ → Plain Val1 State1 → PlainRes Val1 State1
call_host m x p =
    answer1 m x (slice_get p.state.replies x) (show (events.HostCall x (map host_value (reverse p.operands)) (exported_values m p.state)) p.state)
