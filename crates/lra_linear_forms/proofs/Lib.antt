pub mod FormLemmas
-- Worked examples: forms and their opposites.
mod FormExamples
