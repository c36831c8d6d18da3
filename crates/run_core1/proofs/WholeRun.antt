-- What the tasks of a host leave behind is the trace of the run.
use Rattle.std.proofs.Common.{◌≡◌, ℕ, List, map, ap, sym, ◌∙◌}
use Rattle.host_kit.specs.Trace.{Mark}
use Rattle.host_kit.specs.declared.script.Script.{Script}
use Rattle.core1_ast.specs.declared.module.parts.Module1.{Module1}
use Rattle.evaluation_kit.specs.Languages.{func}
use Rattle.evaluation_kit.specs.Tasks.{world_after}
use Rattle.meaning_core1.specs.Store.{State1}
use Rattle.meaning_core1.specs.Instances.{new_state1}
use Rattle.meaning_core1.specs.Language.{language1}
use Rattle.meaning_core1.specs.Runs.{tasks1, trace1}
use Rattle.run_core1.specs.declared.tasks.Task1.{Task1}
use Rattle.run_core1.specs.Tasks.{task_of}

pub is_trace : (m p : Module1) (script : Script) (s end : State1) (ts given : List Task1) (n : ℕ) (marks : List Mark)
    → p ≡ m → s ≡ new_state1 m script → map (task_of m) ts ≡ tasks1 m script → given ≡ ts
    → (world_after (func (language1 p)) (map (task_of p) given) s n).state ≡ end
    → marks ≡ end.trace → marks ≡ trace1 m script n
unfolding trace1
is_trace m p script s end ts given n marks same begins all list leaves told =
    told
    ∙ ap (λ (t : State1). t.trace)
    (sym leaves
    ∙ (ap (λ q. (world_after (func (language1 q)) (map (task_of q) given) s n).state) same
    ∙ (ap (λ l. (world_after (func (language1 m)) (map (task_of m) l) s n).state) list
    ∙ (ap (λ l. (world_after (func (language1 m)) l s n).state) all
    ∙ ap (λ t. (world_after (func (language1 m)) (tasks1 m script) t n).state) begins))))
