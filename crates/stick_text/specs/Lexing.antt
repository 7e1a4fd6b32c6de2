-- A fault of tokens as a fault of a line.
use Rattle.stick_lex.specs.declared.token.LexFault.{LexFault}
use Rattle.stick_lex.specs.declared.token.LexFault.TheVariants as lex_faults
use Rattle.stick_text.specs.declared.fault.{StickKind.TheVariants.{BadByte, NumberTooLarge}, LineFault.LineFault}
use Rattle.stick_text.specs.declared.fault.LineFault.TheVariants.{Kind, OutOfMemory}

abbrev pub line_fault_of : LexFault → LineFault
line_fault_of (lex_faults.BadByte lo) = Kind BadByte
line_fault_of (lex_faults.NumberTooLarge lo) = Kind NumberTooLarge
line_fault_of lex_faults.OutOfMemory = OutOfMemory
