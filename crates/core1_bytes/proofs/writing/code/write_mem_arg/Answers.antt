use Rattle.grammar_kit.specs.Form.{always, ◌>>=◌}
use Rattle.wasm_frame.specs.Leb128.{u32}
use Rattle.core1_bytes.specs.Instructions.{mem_arg}
use Rattle.core1_bytes.proofs.Appending.{on_ok, appends_bind, appends_map}
use Rattle.core1_bytes.proofs.writing.code.write_mem_arg.Goals as goal

pub returns : goal.returns
unfolding mem_arg
returns c = on_ok c.write_u32-2.result c.write_u32-2.ensures (λ p.
    appends_bind u32 (λ a. u32 >>= λ o. always (record { align = a; offset = o })) c.args.out.now c.write_u32.new.out c.write_u32-2.new.out c.args.at.align c.args.at c.in_ok-write_u32.ensures
    (appends_map u32 (λ o. record { align = c.args.at.align; offset = o }) c.write_u32.new.out c.write_u32-2.new.out c.args.at.offset p))
