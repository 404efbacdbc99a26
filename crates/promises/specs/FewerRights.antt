-- Fewer rights: commands in two sessions that are alike but for their rights, the second's a subset of the first's. Each promise is a type; the
-- theorem of the same name is in ../proofs/Promises.antt. Read before: Promises.antt, Links.antt, specs/Joining.antt of machine_rights.
use Rattle.std.specs.Prelude.{ℕ, zero, suc, ◌+◌, ◌-◌, ◌*◌, ◌^◌, ◌≤◌, ◌<◌, ◌≡◌, true, false, ◌⊎◌, List, [], ◌∷◌, ◌++◌, length, set, drop, Ok}
use Rattle.base.specs.Bytes.{put}
use Rattle.store_image.specs.Image.{well_formed}
use Rattle.machine_rights.specs.Rights.{bit}
use Rattle.machine_rights.specs.Chain.{certificate, effective, held, is_cleared}
use Rattle.machine_rights.specs.Joining.{Subset, rights_byte, bits_of}
use Rattle.machine_rights.specs.declared.Rights.{Rights}
use Rattle.machine_session.specs.Session.{opened, session_fits}
use Rattle.machine_session.specs.declared.Session.{Session}
use Rattle.machine_session.specs.declared.Place.TheVariants.{Nowhere}
use Rattle.machine_session_bytes.specs.Layout.{session_in}
use Rattle.machine_chain.specs.Chain.{Chain, NoChain}
use Rattle.machine_chain.specs.Layout.{no_chain_bytes}
use Rattle.machine_link.specs.Link.{chain_fits}
use Rattle.machine_answer.specs.Outcome.{Outcome, outcome}
use Rattle.machine.specs.Step.{step, chain_after}
use Rattle.malquindo.specs.Face.{Called, called_as, called}
use Rattle.promises.specs.Links.{Between, after_sending}

-- ---- one command

-- the session s, but with the rights r [S1]
abbrev pub with_rights : Session → Rights → Session
with_rights s r = record { rights = r; application = s.application; place = s.place }

-- the outcome o, but with the rights r in its session: verdict, length, status word, application and place, and every byte of image and buffer
-- are those of o [C29]
abbrev pub outcome_with : Outcome → Rights → Outcome
outcome_with o r =
    outcome
    (record { verdict = o.answer.verdict; length = o.answer.length; status = o.answer.status; session = with_rights o.answer.session r })
    o.image
    o.buffer

-- 6982 and nothing else: image and session as they came, and the buffer, too, but for its first two bytes, the status word [C29]
abbrev pub only6982 : List ℕ → Session → List ℕ → Outcome
only6982 img s buf = outcome (record { verdict = Ok tt; length = 2; status = 0x6982; session = s }) img (0x69 ∷ 0x82 ∷ drop 2 buf)

-- with the rights `few` the command has the same outcome, and leaves the same chain [C29]
pub record SameReply (img : List ℕ) (s : Session) (few : Rights) (ch : Chain) (cmd buf : List ℕ) : Type 0 where
  pub reply : step img (with_rights s few) ch cmd buf ≡ outcome_with (step img s ch cmd buf) few
  pub chain : chain_after img (with_rights s few) ch cmd (length buf) ≡ chain_after img s ch cmd (length buf)

-- or it answers 6982, and nothing is changed but a chain, which is dropped [C29]
pub record Gets6982 (img : List ℕ) (s : Session) (few : Rights) (ch : Chain) (cmd buf : List ℕ) : Type 0 where
  pub reply : step img (with_rights s few) ch cmd buf ≡ only6982 img (with_rights s few) buf
  pub chain : chain_after img (with_rights s few) ch cmd (length buf) ≡ NoChain

-- on any image, for any command after any chain, with any buffer [C29]
abbrev pub FewerRights : Type 0
FewerRights =
    (img : List ℕ) (s : Session) (few : Rights) (ch : Chain) (cmd buf : List ℕ)
    → session_fits img s ≡ true
    → session_fits img (with_rights s few) ≡ true
    → Subset few s.rights
    → SameReply img s few ch cmd buf ⊎ Gets6982 img s few ch cmd buf

-- ---- the same for C

-- all that c has, but with other bytes for the rights, which are the first 20 of the session [C29] [X1]
abbrev pub called_with : Called → List ℕ → Called
called_with c few = called_as c.result c.image (few ++ drop 20 c.session) c.response

-- length 2 and status 6982; the chain's bytes in the session become zero, and all others stay [C29] [X1] [X3]
abbrev pub called6982 : List ℕ → List ℕ → List ℕ → Called
called6982 img ses buf = called_as (2 * 65536 + 0x6982) img (put ses 25 no_chain_bytes) (0x69 ∷ 0x82 ∷ drop 2 buf)

-- two sessions as bytes that differ in their 20 rights bytes alone [C29] [X8]
abbrev pub CFewerRights : Type 0
CFewerRights =
    (img many few rest cmd buf : List ℕ)
    → length many ≡ 20
    → length few ≡ 20
    → session_fits img (session_in (many ++ rest)) ≡ true
    → session_fits img (session_in (few ++ rest)) ≡ true
    → Subset (held few) (held many)
    → (called img (few ++ rest) cmd buf ≡ called_with (called img (many ++ rest) cmd buf) few)
    ⊎ (called img (few ++ rest) cmd buf ≡ called6982 img (few ++ rest) buf)

-- ---- commands one after the other

-- a command that is sent, and its response buffer [C30]
pub record Sent : Type 0 where
  pub command : List ℕ
  pub buffer : List ℕ

-- its outcome on the image, in the session and after the chain of b, and what it leaves of these [C30]
abbrev pub outcome_of : Between → Sent → Outcome
outcome_of b c = step b.image b.session b.chain c.command c.buffer

-- [C30]
abbrev pub after_one : Between → Sent → Between
after_one b c = after_sending b c.command c.buffer

-- what commands one after the other leave [C30]
unfoldable pub after_sent : Between → List Sent → Between
after_sent b [] = b
after_sent b (c ∷ cs) = after_sent (after_one b c) cs

-- the empty command in the place of c; it gets 6700 [C30]
abbrev pub emptied : Sent → Sent
emptied c = record { command = []; buffer = c.buffer }

-- the commands cs are sent from the state p on, with the rights `few`, and ds from b on, with more rights. Command by command, both are the same and so
-- are their outcomes, but for the rights; or that of cs gets 6982 and nothing else, and that of ds is the empty command [C30]
abbrev pub SameOr6982 : Rights → Between → Between → List Sent → List Sent → Type 0
SameOr6982 few b p [] [] = Unit {0}
SameOr6982 few b p [] (d ∷ ds) = ⊥
SameOr6982 few b p (c ∷ cs) [] = ⊥
SameOr6982 few b p (c ∷ cs) (d ∷ ds) =
    (((d ≡ c) × (outcome_of p c ≡ outcome_with (outcome_of b c) few)) ⊎ ((d ≡ emptied c) × (outcome_of p c ≡ only6982 p.image p.session c.buffer)))
    × SameOr6982 few (after_one b d) (after_one p c) cs ds

-- the image, the session and the chain of b, but with the rights r in the session [C30]
abbrev pub between_with : Between → Rights → Between
between_with b r = record { image = b.image; session = with_rights b.session r; chain = b.chain }

-- the commands cs are sent with the rights `few`, in the state b. With more rights, the commands `with_more` get the same replies, 6982 apart, and
-- leave the same image, session and chain. So fewer rights neither tell nor change what more rights could not [C30]
pub record NoMoreLearnt (few : Rights) (b : Between) (cs : List Sent) : Type 0 where
  pub with_more : List Sent
  pub replies : SameOr6982 few b (between_with b few) cs with_more
  pub left : after_sent (between_with b few) cs ≡ between_with (after_sent b with_more) few

-- [C30]
abbrev pub LearnsNoMore : Type 0
LearnsNoMore =
    (b : Between) (few : Rights) (cs : List Sent)
    → well_formed b.image ≡ true
    → session_fits b.image b.session ≡ true
    → session_fits b.image (with_rights b.session few) ≡ true
    → chain_fits b.chain ≡ true
    → Subset few b.session.rights
    → NoMoreLearnt few b cs

-- two terminals open with the certificates c and d, and no certificate of d has a bit that the same one of c has not; one that is not shown has zeros.
-- `opened d` is `opened c` with the effective rights of d [C30]
abbrev pub FewerShown : Type 0
FewerShown =
    (img c d : List ℕ) (cs : List Sent)
    → well_formed img ≡ true
    → length c ≡ 60
    → ((k : ℕ) → k < 3 → Subset (certificate d k) (certificate c k))
    → (with_rights (opened c) (effective d) ≡ opened d) × NoMoreLearnt (effective d) (record { image = img; session = opened c; chain = NoChain }) cs

-- ---- each bit counts

-- a session in the application a, without a current file [C31]
abbrev pub just_entered : ℕ → Rights → Session
just_entered a r = record { rights = r; application = a; place = Nowhere }

-- the rights r, but with v for byte i of the 20 [C31]
unfoldable pub with_byte : Rights → ℕ → ℕ → Rights
with_byte r zero v = record { flags = v; travel = r.travel; visa = r.visa; biometrics = r.biometrics }
with_byte r (suc zero) v = record { flags = r.flags; travel = v; visa = r.visa; biometrics = r.biometrics }
with_byte r (suc (suc zero)) v = record { flags = r.flags; travel = r.travel; visa = v; biometrics = r.biometrics }
with_byte r (suc (suc (suc i))) v = record { flags = r.flags; travel = r.travel; visa = r.visa; biometrics = set r.biometrics i v }

-- the rights r, which have bit b of byte i, without that bit; it is worth 2 to the power b - 1 [C31]
abbrev pub without_bit : Rights → ℕ → ℕ → Rights
without_bit r i b = with_byte r i (rights_byte r i - 2 ^ (b - 1))

-- an image, an application, and a command whose answer depends on bit b of byte i alone: 9000 with it, 6982 without it, whatever the other rights are
-- [C31]
pub record Decides (i b : ℕ) : Type 0 where
  pub image : List ℕ
  pub application : ℕ
  pub command : List ℕ
  -- there are rights in cleared form that have the bit; without it alone they are in cleared form, too, and have it no longer
  pub one_bit : (r : Rights) × ((is_cleared r ≡ true) × (bit (rights_byte r i) b ≡ true)) × ((is_cleared (without_bit r i b) ≡ true) × (bit (rights_byte (without_bit r i b) i) b ≡ false))
  pub with_bit : (r : Rights) (buf : List ℕ) → is_cleared r ≡ true → 2050 ≤ length buf → bit (rights_byte r i) b ≡ true
      → (step image (just_entered application r) NoChain command buf).answer.status ≡ 0x9000
  pub lacks_bit : (r : Rights) (buf : List ℕ) → is_cleared r ≡ true → 2050 ≤ length buf → bit (rights_byte r i) b ≡ false
      → (step image (just_entered application r) NoChain command buf).answer.status ≡ 0x6982

-- for each bit that has a meaning [C31]
abbrev pub EachBitCounts : Type 0
EachBitCounts = (i b : ℕ) → i < 20 → 1 ≤ b → b ≤ bits_of i → Decides i b
