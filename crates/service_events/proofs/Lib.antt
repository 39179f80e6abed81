pub mod ScrapeLemmas
