use Rattle.std.proofs.Common.{◌≡◌, ◌<◌, [], take, get_or, length, arith, refl, sym, ap, subst, ◌∙◌}
use Rattle.std.proofs.lemmas.List.{take_more}
use Rattle.std.proofs.lemmas.List.Elements.{All-get_or}
use Rattle.core1_ast.specs.declared.module.code.Instr1.TheVariants as instrs
use Rattle.core1_bytes.specs.declared.head.Head1.TheVariants as heads
use Rattle.core1_bytes.specs.Nesting.{depth}
use Rattle.core1_bytes.specs.Appends.{IsTypedInstr}
use Rattle.core1_bytes.proofs.Appending.{on_ok}
use Rattle.core1_bytes.proofs.Depths.{depth_block, depth_loop, depth_if, depth_at}
use Rattle.core1_bytes.proofs.Typed.{all_typed, typed_block, typed_loop, typed_first, typed_second}
use Rattle.core1_bytes.proofs.Nested.{code_none, code_more, one_instr, two_instr, plain_instr}
use Rattle.core1_bytes.proofs.writing.code.+writes.Goals as goal

pub write_code-loop-instr-init : goal.write_code-loop-instr-init
write_code-loop-instr-init t c = code_none c.args.out.now

pub write_code-write_instr-requires : goal.write_code-write_instr-requires
write_code-write_instr-requires t c =
    let within : c.loop-instr.instr-index < length c.args.code.now = omega (arith, ap length c.as_slice-instr-items.ensures) in
    let is = c.instr-item.is ∙ ap (λ code. get_or code c.loop-instr.instr-index c.instr-item.result) c.as_slice-instr-items.ensures in (
      omega (arith, depth_at c.args.code.now c.loop-instr.instr-index c.instr-item.result within is),
      subst IsTypedInstr (sym is) (All-get_or IsTypedInstr c.args.code.now c.loop-instr.instr-index c.instr-item.result within (all_typed c.args.code.now c.requires)),
    )

pub write_code-loop-instr-preserved : goal.write_code-loop-instr-preserved
write_code-loop-instr-preserved t c =
    let within : c.loop-instr.instr-index < length c.args.code.now = omega (arith, ap length c.as_slice-instr-items.ensures) in
    let is = c.instr-item.is ∙ ap (λ code. get_or code c.loop-instr.instr-index c.instr-item.result) c.as_slice-instr-items.ensures in
    rw (take_more c.args.code.now c.loop-instr.instr-index c.instr-item.result within, ← is)
    (code_more c.args.out.now c.loop-instr.out c.write_instr.new.out (take c.loop-instr.instr-index c.args.code.now) c.instr-item.result c.loop-instr.invariant c.in_ok-write_instr.ensures)

pub write_instr-write_code-requires : goal.write_instr-write_code-requires
write_instr-write_code-requires t c =
    (omega (arith, ap depth c.in-Block.is ∙ depth_block c.in-Block.ty c.in-Block.code), typed_block c.args.instr.now c.in-Block.ty c.in-Block.code c.in-Block.is c.requires)

pub write_instr-write_code-requires-in-Loop : goal.write_instr-write_code-requires-in-Loop
write_instr-write_code-requires-in-Loop t c =
    (omega (arith, ap depth c.in-Loop.is ∙ depth_loop c.in-Loop.ty c.in-Loop.code), typed_loop c.args.instr.now c.in-Loop.ty c.in-Loop.code c.in-Loop.is c.requires)

pub write_instr-write_code-requires-in-If : goal.write_instr-write_code-requires-in-If
write_instr-write_code-requires-in-If t c =
    (omega (arith, ap depth c.in-If.is ∙ depth_if c.in-If.ty c.in-If.first c.in-If.second), typed_first c.args.instr.now c.in-If.ty c.in-If.first c.in-If.second c.in-If.is c.requires)

pub write_instr-returns-in_default : goal.write_instr-returns-in_default
write_instr-returns-in_default t c = on_ok c.write_plain.result c.write_plain.ensures (plain_instr c.args.out.now c.write_plain.new.out c.args.instr.now)

pub write_instr-returns-in_ok-write_code-in-Block : goal.write_instr-returns-in_ok-write_code-in-Block
write_instr-returns-in_ok-write_code-in-Block t c = rw c.in-Block.is (on_ok c.write_byte.result c.write_byte.ensures
    (one_instr c.args.out.now c.write_head.new.out c.write_code.new.out c.write_byte.new.out (instrs.Block c.in-Block.ty c.in-Block.code) (heads.Block c.in-Block.ty) c.in-Block.code refl c.in_ok-write_head-in-Block.ensures c.in_ok-write_code-in-Block.ensures))

pub write_instr-returns-in_ok-write_code-in-Loop : goal.write_instr-returns-in_ok-write_code-in-Loop
write_instr-returns-in_ok-write_code-in-Loop t c = rw c.in-Loop.is (on_ok c.write_byte-in-Loop.result c.write_byte-in-Loop.ensures
    (one_instr c.args.out.now c.write_head-in-Loop.new.out c.write_code-in-Loop.new.out c.write_byte-in-Loop.new.out (instrs.Loop c.in-Loop.ty c.in-Loop.code) (heads.Loop c.in-Loop.ty) c.in-Loop.code refl c.in_ok-write_head-in-Loop.ensures c.in_ok-write_code-in-Loop.ensures))

pub write_instr-write_code-requires-in-If-2 : goal.write_instr-write_code-requires-in-If-2
write_instr-write_code-requires-in-If-2 t c =
    (omega (arith, ap depth c.in-If.is ∙ depth_if c.in-If.ty c.in-If.first c.in-If.second), typed_second c.args.instr.now c.in-If.ty c.in-If.first c.in-If.second c.in-If.is c.requires)

pub write_instr-returns-then-is_empty : goal.write_instr-returns-then-is_empty
write_instr-returns-then-is_empty t c =
    let nothing : c.in-If.second ≡ [] = c.is_empty.ensures.0 c.if-is_empty.true in
    rw c.in-If.is (on_ok c.write_byte-then-is_empty.result c.write_byte-then-is_empty.ensures
    (one_instr c.args.out.now c.write_head-in-If.new.out c.write_code-in-If.new.out c.write_byte-then-is_empty.new.out (instrs.If c.in-If.ty c.in-If.first c.in-If.second) (heads.If c.in-If.ty) c.in-If.first (ap (instrs.If c.in-If.ty c.in-If.first) nothing) c.in_ok-write_head-in-If.ensures c.in_ok-write_code-in-If.ensures))

pub write_instr-returns-in_ok-write_code-in-If-2 : goal.write_instr-returns-in_ok-write_code-in-If-2
write_instr-returns-in_ok-write_code-in-If-2 t c = rw c.in-If.is (on_ok c.write_byte-in-If-2.result c.write_byte-in-If-2.ensures
    (two_instr c.args.out.now c.write_head-in-If.new.out c.write_code-in-If.new.out c.write_byte-in-If.new.out c.write_code-in-If-2.new.out c.write_byte-in-If-2.new.out (instrs.If c.in-If.ty c.in-If.first c.in-If.second) (heads.If c.in-If.ty) c.in-If.first c.in-If.second refl refl
    c.in_ok-write_head-in-If.ensures c.in_ok-write_code-in-If.ensures c.in_ok-write_byte-in-If.ensures c.in_ok-write_code-in-If-2.ensures))
