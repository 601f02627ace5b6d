-- Why a worker stops, by what was refused to it.
use Rattle.x10_kinds.specs.declared.stop.Stop.TheVariants as stop
use Rattle.x10_copy.specs.declared.refusal.Refusal.{Refusal}
use Rattle.x10_copy.specs.declared.refusal.Refusal.TheVariants as refusal
use Rattle.x10_hall.specs.declared.port.PostFault.{PostFault}
use Rattle.x10_hall.specs.declared.port.PostFault.TheVariants as fault
use Rattle.x10_workers.specs.declared.halt.Halt.{Halt}
use Rattle.x10_workers.specs.declared.halt.Halt.TheVariants as halt

-- its turn wasn't posted
abbrev pub halt_of_fault : PostFault → Halt
halt_of_fault fault.Stopped = halt.Ended
halt_of_fault fault.Turns = halt.Turns
halt_of_fault (fault.Stop why) = halt.Stop why

-- its place refused a frame
abbrev pub halt_of_refusal : Refusal → Halt
halt_of_refusal refusal.Memory = halt.Stop stop.Memory
halt_of_refusal (refusal.Limit limit) = halt.Stop (stop.Limit limit)
halt_of_refusal refusal.Stopped = halt.Stop stop.Stopped
halt_of_refusal why = halt.Refused why
