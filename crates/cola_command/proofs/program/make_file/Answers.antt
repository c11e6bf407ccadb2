use Rattle.std.proofs.Common.{subst, Err}
use Rattle.cola_layout.specs.declared.fault.LayoutFault.TheVariants.{Keys, Block}
use Rattle.cola_store.specs.Create.{Created}
use Rattle.cola_store.specs.declared.fault.CreateFault.{CreateFault}
use Rattle.cola_command.proofs.program.make_file.Goals as goal

pub returns-in-Err-Keys-clause-ends : goal.returns-in-Err-Keys-clause-ends
returns-in-Err-Keys-clause-ends g c =
    let refused = subst (λ (fault : CreateFault). Created g.D.Device c.args.format c.args.keys c.args.block_exp c.args.device.now c.create_as.new.device (Err fault)) c.in-Err-Keys.field-0-is c.in-Err-Keys.ensures.created in
    absurd (c.requires Keys refused.why)

pub returns-in-Err-Block-clause-ends : goal.returns-in-Err-Block-clause-ends
returns-in-Err-Block-clause-ends g c =
    let refused = subst (λ (fault : CreateFault). Created g.D.Device c.args.format c.args.keys c.args.block_exp c.args.device.now c.create_as.new.device (Err fault)) c.in-Err-Block.field-0-is c.in-Err-Block.ensures.created in
    absurd (c.requires Block refused.why)
