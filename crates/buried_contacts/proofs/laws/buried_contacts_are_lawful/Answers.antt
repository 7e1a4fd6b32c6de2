-- The law is the lemmas on each item and each two items of a master.
use Rattle.buried_contacts.proofs.laws.buried_contacts_are_lawful.Goals as goal
use Rattle.buried_contacts.proofs.Contacts.{windows_hold, have_windows, have_pads, overlap_there, shared, windows_off}
use Rattle.buried_contacts.proofs.Contacts.{covered}

pub returns-clause-cover : goal.returns-clause-cover
returns-clause-cover c = λ layout done. covered c.args.tech.now c.args.master.now c.requires layout done

pub returns-clause-overlap : goal.returns-clause-overlap
returns-clause-overlap c = λ layout done. overlap_there c.args.tech.now c.args.master.now c.requires layout done

pub returns-clause-share : goal.returns-clause-share
returns-clause-share c = λ layout done. shared c.args.tech.now c.args.master.now c.requires layout done

pub returns-clause-hold : goal.returns-clause-hold
returns-clause-hold c = λ layout. windows_hold c.args.tech.now c.args.master.now c.requires layout

pub returns-clause-have : goal.returns-clause-have
returns-clause-have c = λ layout. have_windows c.args.tech.now c.args.master.now c.requires layout

pub returns-clause-pads : goal.returns-clause-pads
returns-clause-pads c = λ layout. have_pads c.args.tech.now c.args.master.now c.requires layout

pub returns-clause-keep_off : goal.returns-clause-keep_off
returns-clause-keep_off c = λ layout done. windows_off c.args.tech.now c.args.master.now c.requires layout done
