use Rattle.std.proofs.Common.{rules}
use Rattle.machine_kit.proofs.exec.open_next.Goals as goal

pub returns-in_ok-run_block-in-Enclose : goal.returns-in_ok-run_block-in-Enclose
returns-in_ok-run_block-in-Enclose g c = let m = c.in_ok-run_block-in-Enclose.ensures c.args.state.now in search rules

pub returns-in_ok-run_loop-in-Repeat : goal.returns-in_ok-run_loop-in-Repeat
returns-in_ok-run_loop-in-Repeat g c = let m = c.in_ok-run_loop-in-Repeat.ensures c.args.state.now in search rules

pub returns-in_ok-run_choice-in-Choose : goal.returns-in_ok-run_choice-in-Choose
returns-in_ok-run_choice-in-Choose g c = let m = c.in_ok-run_choice-in-Choose.ensures c.args.state.now in search rules

pub returns-in_ok-run_guard-in-Guard : goal.returns-in_ok-run_guard-in-Guard
returns-in_ok-run_guard-in-Guard g c = let m = c.in_ok-run_guard-in-Guard.ensures c.args.state.now in search rules

pub returns-in_ok-run_call-in-Invoke : goal.returns-in_ok-run_call-in-Invoke
returns-in_ok-run_call-in-Invoke g c = let m = c.in_ok-run_call-in-Invoke.ensures c.args.state.now in search rules
