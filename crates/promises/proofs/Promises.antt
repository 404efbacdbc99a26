-- The theorems: each proves the promise of its name in ../specs/Promises.antt, Done.antt, Binary.antt, Linked.antt, Cuts.antt, Bodies.antt,
-- Certificates.antt, Index.antt, Stamps.antt, Rights.antt, Links.antt or FewerRights.antt.
use Rattle.promises.specs.Promises.{SaysNo, GetsWord, Opens, Holds, NumberKept, ReadsHistory, LeavesNoneOut, OnlySearches, SearchRefused, BothSpellings, StaysAccepted, AnswerFits, OpeningFits, SessionBytes, OpeningBytes, ResultWhole, MoveSaysNo, MoveDone, SameSizes, MoveTwice, MoveWhole}
use Rattle.promises.specs.Done.{AppendDone, UpdateDone, ActivateDone, ReadDone, ReadOddDone, SelectDone, FmmDone}
use Rattle.promises.specs.Binary.{BothReads, OddReaches}
use Rattle.promises.specs.Linked.{CSees, CMalformed, CSaysNo, CGetsWord, CHolds, CNumberKept, CReadsHistory, CLeavesNoneOut, COpens, CMoves}
use Rattle.promises.specs.Cuts.{CutStores, CutLeaves, AppendInOrder, ActivateInOrder, RoomUsed, CCuts}
use Rattle.promises.specs.Links.{EachLinkAnswered, GoesOn, LinksAsWhole}
use Rattle.promises.specs.Bodies.{CFile, CFileStays}
use Rattle.promises.specs.Certificates.{CCertificate, CCertificateKept}
use Rattle.promises.specs.Index.{CIndexBuilds, CIndexExtends, CIndexReads, CIndexKept, CIndexRoom, CIndexReplies}
use Rattle.promises.specs.Stamps.{CStampReads, CStampUnique, CStampLongest}
use Rattle.promises.specs.Rights.{CRights, CRightsRead, CRightsRefused}
use Rattle.promises.specs.FewerRights.{FewerRights, CFewerRights, LearnsNoMore, FewerShown, EachBitCounts}
use Rattle.promises.proofs.Keeping.{step_kept}
use Rattle.promises.proofs.Opening.{opening-opened}
use Rattle.store_move.proofs.Moves.{move_card_numbered}
use Rattle.store_move_laws.proofs.Laws.{refused_target}
use Rattle.promises.proofs.Saying as saying
use Rattle.promises.proofs.Doing as doing
use Rattle.promises.proofs.Binary as binary
use Rattle.promises.proofs.Moving as moving
use Rattle.promises.proofs.Growing as growing
use Rattle.promises.proofs.Reading as reading
use Rattle.promises.proofs.Deciding as deciding
use Rattle.promises.proofs.Searching as searching
use Rattle.promises.proofs.Spelling as spelling
use Rattle.promises.proofs.Fitting as fitting
use Rattle.promises.proofs.Cuts as cuts
use Rattle.promises.proofs.InOrder as in_order
use Rattle.promises.proofs.Room as room
use Rattle.promises.proofs.Links as links
use Rattle.promises.proofs.Linking as linking
use Rattle.promises.proofs.Calling as calling
use Rattle.promises.proofs.Bodies as bodies
use Rattle.promises.proofs.Certificates as certificates
use Rattle.promises.proofs.Index as index
use Rattle.promises.proofs.Stamps as stamps
use Rattle.promises.proofs.Rights as rights
use Rattle.promises.proofs.Fewer as fewer
use Rattle.promises.proofs.FewerLinked as fewer-linked
use Rattle.promises.proofs.FewerInTurn as fewer-in-turn
use Rattle.promises.proofs.EachBit as each-bit

pub says_no : SaysNo
says_no = step_kept

pub gets_word : GetsWord
gets_word = saying.gets_word

pub opens : Opens
opens = opening-opened

pub holds : Holds
holds = growing.calls_held

pub number-kept : NumberKept
number-kept = growing.number-kept

pub reads-history : ReadsHistory
reads-history = reading.reads-history

pub leaves-none_out : LeavesNoneOut
leaves-none_out = searching.leaves-none_out

pub only_searches : OnlySearches
only_searches = deciding.only_searches

pub search_refused : SearchRefused
search_refused = deciding.search_refused

pub both_spellings : BothSpellings
both_spellings = spelling.both_spellings

pub stays_accepted : StaysAccepted
stays_accepted = fitting.stays_accepted

pub answer-fits : AnswerFits
answer-fits = fitting.answer-fits

pub opening-fits : OpeningFits
opening-fits = fitting.opening-fits

pub session-bytes : SessionBytes
session-bytes = linking.session-bytes

pub opening-bytes : OpeningBytes
opening-bytes = linking.opening-bytes

pub result-whole : ResultWhole
result-whole = linking.result-whole

pub move_says_no : MoveSaysNo
move_says_no = refused_target

pub move_done : MoveDone
move_done = moving.move_done

pub same_sizes : SameSizes
same_sizes = moving.same

pub move_twice : MoveTwice
move_twice = moving.twice

pub move_whole : MoveWhole
move_whole = move_card_numbered

pub append-done : AppendDone
append-done = doing.append-done

pub update-done : UpdateDone
update-done = doing.update-done

pub activate-done : ActivateDone
activate-done = doing.activate-done

pub read_done : ReadDone
read_done = doing.read_done

pub read_odd_done : ReadOddDone
read_odd_done = doing.read_odd_done

pub both_reads : BothReads
both_reads = binary.both_reads

pub odd_reaches : OddReaches
odd_reaches = binary.odd_reaches

pub select-done : SelectDone
select-done = doing.select-done

pub fmm-done : FmmDone
fmm-done = doing.fmm-done

pub c_sees : CSees
c_sees = calling.c_sees

pub c_malformed : CMalformed
c_malformed = calling.c_malformed

pub c_says_no : CSaysNo
c_says_no = calling.c_says_no

pub c_gets_word : CGetsWord
c_gets_word = calling.c_gets_word

pub c_holds : CHolds
c_holds = calling.c_holds

pub c_number-kept : CNumberKept
c_number-kept = calling.c_number-kept

pub c_reads-history : CReadsHistory
c_reads-history = calling.c_reads-history

pub c_leaves-none_out : CLeavesNoneOut
c_leaves-none_out = calling.c_leaves-none_out

pub c_opens : COpens
c_opens = calling.c_opens

pub c_moves : CMoves
c_moves = calling.c_moves

pub cut-stores : CutStores
cut-stores = cuts.cut-stores

pub cut-leaves : CutLeaves
cut-leaves = cuts.cut-leaves

pub append_in_order : AppendInOrder
append_in_order = in_order.append_in_order

pub activate_in_order : ActivateInOrder
activate_in_order = in_order.activate_in_order

pub room-used : RoomUsed
room-used = room.room-used

pub c_cuts : CCuts
c_cuts = calling.c_cuts

pub link_answered : EachLinkAnswered
link_answered = links.link_answered

pub goes_on : GoesOn
goes_on = links.continues

pub links_as_whole : LinksAsWhole
links_as_whole = links.links_as_whole

pub c_file : CFile
c_file = bodies.c_file

pub c_file_stays : CFileStays
c_file_stays = bodies.c_file_stays

pub c_certificate : CCertificate
c_certificate = certificates.c_certificate

pub c_certificate-kept : CCertificateKept
c_certificate-kept = certificates.c_certificate-kept

pub c_index_builds : CIndexBuilds
c_index_builds = index.c_index_builds

pub c_index_extends : CIndexExtends
c_index_extends = index.c_index_extends

pub c_index_reads : CIndexReads
c_index_reads = index.c_index_reads

pub c_index_kept : CIndexKept
c_index_kept = index.c_index_kept

pub c_index_room : CIndexRoom
c_index_room = index.c_index_room

pub c_index_replies : CIndexReplies
c_index_replies = index.c_index_replies

pub c_stamp_reads : CStampReads
c_stamp_reads = stamps.c_stamp_reads

pub c_stamp_unique : CStampUnique
c_stamp_unique = stamps.c_stamp_unique

pub c_stamp_longest : CStampLongest
c_stamp_longest = stamps.c_stamp_longest

pub c_rights : CRights
c_rights = rights.c_rights

pub c_rights-read : CRightsRead
c_rights-read = rights.c_rights-read

pub c_rights-refused : CRightsRefused
c_rights-refused = rights.c_rights-refused

pub fewer_rights : FewerRights
fewer_rights = fewer.fewer_rights

pub c_fewer_rights : CFewerRights
c_fewer_rights = fewer-linked.c_fewer_rights

pub learns_no_more : LearnsNoMore
learns_no_more = fewer-in-turn.learns_no_more

pub fewer_shown : FewerShown
fewer_shown = fewer-in-turn.fewer_shown

pub each-bit_counts : EachBitCounts
each-bit_counts = each-bit.each-bit_counts
